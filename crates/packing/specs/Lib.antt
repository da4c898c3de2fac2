pub mod Fields
pub mod Words
pub mod Zeros
pub mod Bits
pub mod Bitmap
pub mod FirstFree
