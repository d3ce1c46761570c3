pub mod Readings
pub mod Replies
