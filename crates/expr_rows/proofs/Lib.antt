-- The laws of this crate.
pub mod Lanes
pub mod Tokens
