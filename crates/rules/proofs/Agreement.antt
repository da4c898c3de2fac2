-- The model agrees with the plain store, call by call.
pub mod Agree
pub mod Change
pub mod Truncate
pub mod Delete
pub mod Remove
pub mod CreateMake
pub mod AgreeCalls
pub mod OthersRead
