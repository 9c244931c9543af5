-- The laws of this crate.
pub mod Runs
pub mod Filling
pub mod Answering
