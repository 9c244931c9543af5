-- What the contracts of the crates above cite.
pub mod Push
pub mod Stock
pub mod Bank
pub mod Encoding
pub mod Facts
