pub mod Settings
pub mod Repeats
