pub mod Digits
pub mod LowWords
pub mod LowestBit
pub mod Tracks
pub mod MaskPages
pub mod PageMasks
pub mod KindMasks
