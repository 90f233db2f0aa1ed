pub mod Worked
pub mod WorkedKinds
