-- Set records: chains, the rules on sets, sets made and removed.
pub mod Chains
pub mod SetsOk
pub mod SetsFormed
pub mod MakeSet
pub mod RemoveSet
