-- What the contracts of this crate, and the definitions above it, cite.
pub mod Rules
pub mod Firing
pub mod Steps
pub mod Lent
