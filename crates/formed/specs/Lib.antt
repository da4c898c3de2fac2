pub mod Files
pub mod Heads
pub mod First
