-- 01's bench sheet.
pub mod Inputs
pub mod Sheet
