-- The laws of this crate, which the crates above cite too.
pub mod Refusing
pub mod Lines
pub mod Parts
pub mod Starting
