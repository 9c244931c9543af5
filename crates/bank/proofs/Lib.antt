-- The laws of this crate.
pub mod Reaching
pub mod Answering
