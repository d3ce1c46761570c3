pub mod Placed
pub mod Rounds
pub mod Taken
pub mod Turns
