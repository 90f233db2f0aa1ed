pub mod Refusals
pub mod Promises
pub mod Machines
pub mod Worked
