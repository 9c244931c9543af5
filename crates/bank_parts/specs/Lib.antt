-- What the contracts of this crate, and the definitions above it, cite.
pub mod Parts
pub mod Lent
