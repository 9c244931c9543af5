-- The laws of this crate.
mod Words
mod Readings
pub mod Rules
