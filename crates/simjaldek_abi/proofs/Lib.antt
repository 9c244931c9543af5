-- The laws of this crate, which the exported functions cite too.
pub mod Loading
