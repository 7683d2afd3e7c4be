pub mod Numbers
pub mod StoredBytes
