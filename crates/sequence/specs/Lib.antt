pub mod Events
pub mod Accepted
pub mod Calls
pub mod Rows
pub mod Replies
pub mod Lowest
