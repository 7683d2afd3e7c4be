pub mod Apart
pub mod Columns
