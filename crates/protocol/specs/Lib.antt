pub mod Addr
pub mod Ack
pub mod Stored
pub mod Refusals
pub mod Lowest
pub mod Kinds
pub mod Carried
pub mod Action
