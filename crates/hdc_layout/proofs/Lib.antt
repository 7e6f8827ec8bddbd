pub mod Found
pub mod Closing
pub mod Whole
pub mod Kept
