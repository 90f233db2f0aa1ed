pub mod Digraph
pub mod Kept
pub mod Walks
pub mod Flows
pub mod Trees
pub mod Cycles
pub mod Worked
