pub mod Accesses
pub mod Accounts
pub mod Faults
pub mod Laws
pub mod Places
pub mod Reasons
pub mod Views
