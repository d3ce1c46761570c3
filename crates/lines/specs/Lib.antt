pub mod Numbers
pub mod Parts
pub mod Meanings
pub mod Frames
pub mod Expectations
pub mod Lines
