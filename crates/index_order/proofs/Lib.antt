-- The laws of this crate, which the crates above cite too.
pub mod Sorted
pub mod OrderLaws
pub mod Tested
