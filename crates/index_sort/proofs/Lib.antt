-- The laws of the sort by digits.
pub mod Count
pub mod Halves
pub mod Moves
pub mod Whole
