-- The laws of this crate, which the crates above cite too.
pub mod Texts
pub mod Making
pub mod SeedLaws
