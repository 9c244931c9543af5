-- What the contract of the product search cites, demand 3, and 02, 2.4. Read search_product_trial's Trying, then Answer, then Demand and Cheapest, and Own on what a build leaves.
pub mod Answer
pub mod Searched
pub mod Demand
pub mod Cheapest
pub mod Own
