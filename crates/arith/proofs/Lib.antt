-- The laws of this crate, which the crates above cite too.
pub mod Remainders
pub mod Congruence
pub mod Newton
pub mod Bits
