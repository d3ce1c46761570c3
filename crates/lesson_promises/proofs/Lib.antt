pub mod ToldNames
pub mod ToldNumbers
pub mod ToldBits
pub mod ToldRegisters
pub mod Read
pub mod Telling
pub mod Apart
