pub mod Exchange
pub mod Owners
pub mod Gathering
