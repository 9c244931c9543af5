-- The laws of this crate.
pub mod Numbers
pub mod Refusing
pub mod Building
pub mod Keeping
