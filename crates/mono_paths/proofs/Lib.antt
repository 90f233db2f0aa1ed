pub mod Trails
pub mod Expand
pub mod Searches
pub mod Ends
mod Reached
mod Rows
pub mod Queued
pub mod Cuts
pub mod NodeLabels
pub mod Listed
pub mod Decides
