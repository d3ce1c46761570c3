pub mod Names
pub mod Frames
pub mod Steps
pub mod Lines
