pub mod Actions
pub mod Settings
