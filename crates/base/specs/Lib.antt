pub mod Logic
pub mod Update
pub mod Count
pub mod Search
pub mod Tabulate
