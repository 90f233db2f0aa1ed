pub mod Cyclic
pub mod Orders
pub mod Together
