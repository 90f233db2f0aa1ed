pub mod Buckets
pub mod Literal
pub mod LitSet
pub mod Ranking
pub mod Partial
pub mod Numbers
pub mod Worked
pub mod Worklist
