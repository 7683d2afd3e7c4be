pub mod InOrder
pub mod Matched
pub mod Whole
pub mod Days
