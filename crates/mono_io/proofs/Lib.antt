mod Fronts
pub mod Growing
pub mod TakenPieces
pub mod KnownBytes
pub mod ReadingOn
mod Plans
mod NamedTexts
