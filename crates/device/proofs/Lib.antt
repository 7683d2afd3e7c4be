pub mod Places
pub mod Tags
