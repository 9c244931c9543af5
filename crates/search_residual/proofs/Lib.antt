-- The laws of this crate.
pub mod Telling
pub mod Passing
pub mod Joining
