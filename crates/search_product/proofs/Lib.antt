-- The laws of this crate.
pub mod Passing
pub mod Trials
pub mod OwnPairs
pub mod Nothing
pub mod Cheap
pub mod Accepted
