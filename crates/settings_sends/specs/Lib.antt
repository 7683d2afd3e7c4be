pub mod Sends
pub mod ReadBack
pub mod Inverse
pub mod Ran
