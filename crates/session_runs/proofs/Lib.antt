mod Follows
mod Heard
pub mod Whole
