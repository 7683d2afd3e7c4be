pub mod Theorem
pub mod Going
