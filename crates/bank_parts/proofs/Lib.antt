-- The laws of this crate, which the crates above cite too.
pub mod Storing
pub mod Lending
