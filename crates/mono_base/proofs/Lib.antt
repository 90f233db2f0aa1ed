pub mod ListsByKey
pub mod Members
pub mod Partials
pub mod Quiet
pub mod Rankings
pub mod Sparse
pub mod Truth
pub mod Worklists
