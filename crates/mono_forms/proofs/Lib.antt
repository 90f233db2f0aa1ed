pub mod Bests
mod CoreLines
pub mod Cores
mod Format
mod Lines
mod NoteLines
mod Notes
mod OneEnding
pub mod OutOfMemory
pub mod PlaceByEnding
pub mod Replies
mod Solutions
pub mod Stages
mod TeamSolutions
mod Writings
