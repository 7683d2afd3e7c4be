pub mod Armed
pub mod Answers
pub mod Rules
