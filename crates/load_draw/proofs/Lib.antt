-- The laws of this crate, which the crates above cite too.
pub mod Picking
pub mod Drawing
pub mod Refusing
