-- The laws of this crate, which the crates above cite too.
pub mod Zeros
pub mod Used
pub mod Solutions
