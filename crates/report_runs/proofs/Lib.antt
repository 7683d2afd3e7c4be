pub mod Sums
pub mod Ticks
pub mod StartUps
pub mod Whole
mod Days
