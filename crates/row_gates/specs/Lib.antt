-- What the contracts of this crate, and the definitions above it, cite; and what holds of every gate.
pub mod Gates
pub mod Facts
