-- The laws of this crate, which the crates above cite too.
pub mod Stack
pub mod Checking
pub mod Formulas
