pub mod Network
pub mod Pages
