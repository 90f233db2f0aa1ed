pub mod Joined
pub mod Draws
pub mod Board
pub mod Lines
pub mod Generated
