pub mod States
pub mod OneModel
pub mod Whole
pub mod Days
