pub mod CallCases
pub mod Formatting
pub mod ChangedRecords
pub mod Told
pub mod Checked
pub mod WorkedOn
pub mod TermCases
pub mod Compacting
