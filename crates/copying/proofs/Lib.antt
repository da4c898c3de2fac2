pub mod Steps
pub mod Kept
pub mod Marks
pub mod Settled
pub mod Chains
pub mod Given
pub mod Handed
pub mod Begin
