-- What the contracts of this crate, and the definitions above it, cite.
pub mod Text
pub mod Printing
pub mod Lent
