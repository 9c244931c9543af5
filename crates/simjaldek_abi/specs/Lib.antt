-- What the contracts of this crate and of the exported functions cite.
pub mod Slices
pub mod Reply
