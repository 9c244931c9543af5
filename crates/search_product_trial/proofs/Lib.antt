-- The laws of this crate, which the crates above cite too.
pub mod Trials
pub mod Firsts
pub mod Slots
pub mod Keeping
pub mod Rounds
pub mod Worked
