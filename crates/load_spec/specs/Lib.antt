-- The statements of 02, 2.2.
pub mod Formulas
pub mod Loads
pub mod Buffers
pub mod Cases
