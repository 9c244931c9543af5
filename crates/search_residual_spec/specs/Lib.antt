-- 02, 2.1's promises. Read search_residual_trial's Trying and search_residual's Answer first, and search_product's Demand for the terms of demand 3.
pub mod Sums
pub mod Cases
