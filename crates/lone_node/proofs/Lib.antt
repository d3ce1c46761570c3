pub mod Counted
pub mod Alone
