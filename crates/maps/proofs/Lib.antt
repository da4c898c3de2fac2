pub mod OutOfRange
pub mod Steps
pub mod ManyPages
pub mod FourEntries
