-- What the contracts of this crate, and those above it, cite.
pub mod Phases
