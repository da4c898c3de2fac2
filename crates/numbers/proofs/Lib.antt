pub mod Rows
pub mod Needs
pub mod Told
