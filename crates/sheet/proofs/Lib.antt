pub mod Pieces
pub mod Lines
pub mod Stored
pub mod Trials
