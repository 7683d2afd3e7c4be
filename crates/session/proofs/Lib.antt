pub mod Leads
pub mod Last
