-- The laws of this crate.
pub mod Mixing
pub mod Walking
pub mod Passing
