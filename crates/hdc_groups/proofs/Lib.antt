pub mod Listing
pub mod Members
pub mod Loops
pub mod Closed
