-- Laws of this crate's definitions.
pub mod Stepping
pub mod Soundings
pub mod Closing
pub mod Worked
