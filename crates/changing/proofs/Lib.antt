pub mod OnTables
pub mod Whole
