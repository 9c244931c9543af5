-- The laws of this crate, which the crates above cite too.
pub mod IndexLaws
pub mod RowLaws
