pub mod Entries
pub mod Index
pub mod Bound
pub mod SeenBounds
pub mod DueNodes
