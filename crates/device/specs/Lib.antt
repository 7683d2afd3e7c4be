pub mod Model
pub mod Search
pub mod Sends
pub mod Tag
