pub mod Searches
pub mod Found
pub mod Behind
pub mod Arranged
pub mod Kept
