-- The rules on files and bits, as tests and as propositions, and that calls keep them.
pub mod Tests
pub mod MarkedBare
pub mod Shape
pub mod Past
pub mod FilesFormed
pub mod Cleared
pub mod FilesMapped
pub mod FilesOfSets
pub mod ModelFormed
pub mod BitsFormed
