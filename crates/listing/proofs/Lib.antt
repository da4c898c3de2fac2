pub mod Writing
pub mod Decimals
pub mod Runs
pub mod LineTexts
pub mod Visits
pub mod Order
pub mod Whole
pub mod Outcomes
