pub mod Report
pub mod Lowest
