pub mod Loops
pub mod Cutting
