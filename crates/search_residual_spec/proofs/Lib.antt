-- The proofs of the statements, each named as its statement.
pub mod Trials
pub mod Nothing
pub mod Alike
pub mod Built
pub mod Worked
