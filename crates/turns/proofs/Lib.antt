pub mod Turns
pub mod OnBytes
pub mod WorkedExample
