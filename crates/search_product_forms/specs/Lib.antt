-- What the contracts of this crate, and the definitions above it, cite.
pub mod Forms
pub mod Refusals
pub mod Written
pub mod Lent
