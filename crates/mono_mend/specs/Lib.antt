pub mod Growing
pub mod Guiding
