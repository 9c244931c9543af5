-- The proofs of the statements of specs/.
pub mod Machine
pub mod Formulas
pub mod Loads
pub mod Buffers
pub mod Worked
