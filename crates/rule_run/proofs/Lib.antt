-- The laws of this crate.
pub mod Counting
pub mod Feeding
pub mod Single
pub mod Runs
pub mod Worked
