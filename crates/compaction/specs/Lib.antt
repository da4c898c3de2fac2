pub mod Compact
pub mod Call
pub mod Renumbered
