-- What the contracts of this crate cite.
pub mod Candidates
pub mod Steps
