pub mod Putting
pub mod Words
pub mod Records
pub mod Lining
