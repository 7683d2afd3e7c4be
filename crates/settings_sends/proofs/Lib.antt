pub mod Round
pub mod Sent
pub mod Reading
pub mod Inverse
pub mod Ran
pub mod Trials
