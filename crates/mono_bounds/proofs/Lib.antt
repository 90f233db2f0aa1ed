pub mod EntryBuckets
pub mod Switches
pub mod IndexMade
pub mod BoundsStay
pub mod SpansStay
pub mod DueNodes
