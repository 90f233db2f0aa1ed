pub mod Sharing
pub mod Slots
pub mod Worked
