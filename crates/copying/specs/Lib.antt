pub mod Work
pub mod Heirs
pub mod Changes
