-- What the contracts of this crate, and the definitions above it, cite.
pub mod Places
pub mod Sweeps
pub mod Steps
pub mod Lists
pub mod Facts
pub mod Refusals
