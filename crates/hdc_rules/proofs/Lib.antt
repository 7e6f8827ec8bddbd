pub mod Listing
pub mod Loops
pub mod Adjacent
pub mod Taking
pub mod Scanning
pub mod Checking
