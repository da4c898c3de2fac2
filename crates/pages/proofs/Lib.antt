pub mod Parts
pub mod PageRuns
pub mod Overlays
pub mod Whole
