-- The store without blocks and bytes and the tally do the same.
pub mod TallyReach
pub mod TallyLoops
pub mod TallyFreed
pub mod TallyGroups
pub mod TallyHanding
pub mod TallySteps
pub mod TallyWriter
pub mod TallyChange
pub mod TallyNumbers
pub mod TallyCalls
