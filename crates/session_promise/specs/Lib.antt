pub mod Places
pub mod Ticking
pub mod Whole
pub mod Taking
pub mod Sheets
