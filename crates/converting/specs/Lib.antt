pub mod Front
pub mod Clearing
