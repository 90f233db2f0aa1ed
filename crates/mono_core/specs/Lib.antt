pub mod Cores
pub mod Dropped
pub mod Minimal
pub mod Worked
