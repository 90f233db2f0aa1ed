pub mod Heap
pub mod Kept
pub mod Luby
pub mod Moves
pub mod Order
pub mod Places
pub mod Seen
pub mod TrailView
