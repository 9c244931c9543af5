-- What the contracts of this crate, and the definitions above it, cite.
pub mod Entry
pub mod Seeding
