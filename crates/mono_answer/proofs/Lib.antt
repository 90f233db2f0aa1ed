pub mod TokenSteps
pub mod Printing
pub mod Tokens
pub mod KeptLines
pub mod ReadBack
pub mod RoundTrip
pub mod SmallSteps
pub mod Within
