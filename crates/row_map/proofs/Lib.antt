-- The laws of this crate, which the crates above cite too.
pub mod MapLaws
pub mod Walks
