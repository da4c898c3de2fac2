pub mod Upward
pub mod ManyPages
pub mod FourEntries
pub mod Mask
