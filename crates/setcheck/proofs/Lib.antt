pub mod HeaderTests
pub mod Zeros
pub mod Links
pub mod Places
pub mod WellFormedParts
pub mod Parts
