pub mod FlatLists
pub mod Entries
pub mod Copies
pub mod Wider
pub mod Assumed
pub mod SameValues
pub mod Declared
pub mod Added
pub mod FirstFalse
pub mod SortedUses
pub mod AllUses
pub mod Bounds
pub mod Monotone
pub mod QuietAtoms
pub mod EdgeUses
pub mod Homes
mod WorkedFailures
