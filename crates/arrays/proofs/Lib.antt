-- The laws of this crate, which the crates above cite too.
pub mod Fill
pub mod Parts
pub mod Lists
pub mod Least
