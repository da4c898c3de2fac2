-- When a file becomes marked, in the words of document 01.
pub mod Marking
pub mod MarkingRun
pub mod MarkingSettled
pub mod MarkingCalls
pub mod MarkingCount
pub mod MarkingStays
