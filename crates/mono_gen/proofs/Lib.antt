pub mod Counts
pub mod Joining
pub mod NoFault
pub mod ReadBack
pub mod Sizes
