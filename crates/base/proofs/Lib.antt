pub mod Choices
pub mod Flags
