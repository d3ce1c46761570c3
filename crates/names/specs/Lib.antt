pub mod Scan
pub mod Listing
pub mod Rows
pub mod Table
