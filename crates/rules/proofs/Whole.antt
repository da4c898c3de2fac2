-- Whole lists of calls: the invariant, that it holds after every list of calls, what it means; rows and worked session.
pub mod Accepted
pub mod Order
pub mod Holds
pub mod HoldsMeans
pub mod Quiet
pub mod HoldsOf
pub mod Clearing
pub mod Compared
pub mod OrderMarks
pub mod OrderOthers
pub mod HoldsRun
pub mod Rows
pub mod WorkedSession
