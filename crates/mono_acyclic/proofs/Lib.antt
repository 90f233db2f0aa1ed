pub mod CycleEvidence
pub mod OrderStays
pub mod Together
pub mod Closers
