pub mod Seeing
pub mod Plain
pub mod Moving
pub mod Records
