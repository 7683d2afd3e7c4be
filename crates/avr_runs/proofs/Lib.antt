pub mod States
pub mod Whole
pub mod Days
