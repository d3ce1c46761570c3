pub mod Called
pub mod Narrowed
pub mod Kept
