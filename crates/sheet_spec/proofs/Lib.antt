-- The proof of the sheet.
pub mod Proved
