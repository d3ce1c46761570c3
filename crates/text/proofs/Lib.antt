pub mod Extending
pub mod Putting
