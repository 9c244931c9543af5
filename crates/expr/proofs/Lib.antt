-- The laws of this crate, which the crates above cite too.
pub mod Tokens
pub mod Machine
pub mod Trees
pub mod Testing
pub mod Formulas
