pub mod TableLabels
pub mod DistanceEvidence
pub mod SureLabels
pub mod WitnessLabels
pub mod KnownLabels
pub mod ReadLabels
pub mod WorkedRows
