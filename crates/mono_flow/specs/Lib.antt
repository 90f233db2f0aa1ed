pub mod Flowing
pub mod KeptFlows
pub mod Growing
pub mod Worked
