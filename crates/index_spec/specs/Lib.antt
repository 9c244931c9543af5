-- What the contracts of the crates above cite.
pub mod Index
pub mod Trials
pub mod Facts
pub mod Encoding
