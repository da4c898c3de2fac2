-- Dates and terms: days by closed form, what is claimed of them, and a store with another term of one set.
pub mod Dates
pub mod Claims
pub mod TermSet
