pub mod Dropped
pub mod Fewer
pub mod Left
pub mod Minimal
pub mod Needs
pub mod WideModels
