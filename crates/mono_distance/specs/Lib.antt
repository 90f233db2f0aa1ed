pub mod Labels
pub mod Distances
pub mod SureLabels
pub mod Readings
pub mod Worked
