pub mod Asked
pub mod Leaps
pub mod Numbers
pub mod Optimal
pub mod Outcomes
pub mod WorkedBest
