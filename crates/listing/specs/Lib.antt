-- What the contracts of this crate cite.
pub mod Listing
pub mod Steps
