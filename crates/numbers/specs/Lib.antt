pub mod Shared
pub mod Refusals
