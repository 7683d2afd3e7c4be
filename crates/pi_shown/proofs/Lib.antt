pub mod Compared
pub mod Whole
pub mod Days
