pub mod Sends
pub mod Fed
pub mod Beside
pub mod Untimed
pub mod Timed
pub mod Law
pub mod Sheets
pub mod Session
