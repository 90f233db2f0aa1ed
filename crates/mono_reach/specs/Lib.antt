pub mod Reaches
pub mod Marks
pub mod Readings
pub mod Worked
