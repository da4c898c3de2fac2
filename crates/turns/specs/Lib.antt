pub mod Session
pub mod Outcomes
