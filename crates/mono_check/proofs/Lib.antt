pub mod Walked
pub mod Versions
pub mod Literals
pub mod ValueFaults
pub mod SeenMore
pub mod Alike
pub mod Behind
pub mod Cuts
pub mod Found
pub mod WrongAtoms
pub mod ModelEnds
pub mod AllTrue
pub mod ValueRows
pub mod ModelText
pub mod PrintedValues
pub mod Accepted
mod Questions
mod PartsByGraph
pub mod HeldSteps
pub mod BothVersions
pub mod Shifted
pub mod Stands
pub mod ThereAndBack
