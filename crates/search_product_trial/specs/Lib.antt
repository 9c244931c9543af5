-- What the contracts of this crate, and the definitions above it, cite.
pub mod Trying
pub mod Stages
pub mod Steps
pub mod Searches
pub mod Cases
