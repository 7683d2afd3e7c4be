pub mod Answers
pub mod HandOver
