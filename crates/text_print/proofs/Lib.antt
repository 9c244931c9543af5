-- The laws of this crate.
pub mod Decimals
pub mod Lanes
pub mod Listings
pub mod Answers
pub mod Lengths
