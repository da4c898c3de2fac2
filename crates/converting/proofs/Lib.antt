pub mod ClearedFiles
pub mod Fronts
