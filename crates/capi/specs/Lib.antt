pub mod Calls
pub mod Narrow
pub mod Promises
