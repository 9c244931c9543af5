-- The laws of this crate, which the crates above cite too.
pub mod PlaceLaws
pub mod Halving
pub mod Words
pub mod Running
pub mod Keys
