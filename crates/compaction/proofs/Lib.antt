pub mod Ranks
pub mod Places
pub mod Anew
pub mod Counted
pub mod Compacted
pub mod Again
pub mod Cases
