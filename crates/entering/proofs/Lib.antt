pub mod Pending
pub mod Named
