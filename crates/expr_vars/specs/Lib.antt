-- What the contracts of this crate, and the definitions above it, cite.
pub mod Vars
pub mod Facts
