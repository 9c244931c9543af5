-- The laws of this crate, which the crates above cite too.
pub mod Refusals
pub mod Answers
