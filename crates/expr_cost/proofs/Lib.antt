-- The laws of this crate, which the crates above cite too.
pub mod Costs
pub mod Spans
pub mod Formulas
