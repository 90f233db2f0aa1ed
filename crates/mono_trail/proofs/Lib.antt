pub mod Heaps
pub mod Keeps
pub mod Levels
pub mod Orders
pub mod Places
pub mod Terms
pub mod Values
