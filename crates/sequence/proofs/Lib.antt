pub mod Acceptance
pub mod Standing
pub mod Arms
pub mod Events
pub mod Fed
