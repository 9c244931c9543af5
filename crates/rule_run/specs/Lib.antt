-- What the contracts of this crate, and the definitions above it, cite.
pub mod Window
pub mod Steps
pub mod Lent
pub mod Facts
pub mod Cases
