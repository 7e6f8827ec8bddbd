pub mod Listing
pub mod Loops
pub mod Adding
pub mod Noting
