pub mod Asking
pub mod Best
pub mod Bounds
pub mod Leaps
pub mod Met
pub mod Optimum
pub mod Worked
