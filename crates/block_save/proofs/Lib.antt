pub mod Over
pub mod Stored
