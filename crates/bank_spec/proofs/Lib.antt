-- The laws of this crate, which the crates above cite too.
pub mod Lists
pub mod Pushes
pub mod Encodings
pub mod AtomRows
pub mod Growth
pub mod Soundness
pub mod Stocks
pub mod Banks
