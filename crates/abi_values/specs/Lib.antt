pub mod Numbers
pub mod Params
pub mod Options
