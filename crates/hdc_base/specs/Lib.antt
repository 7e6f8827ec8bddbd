pub mod Counts
pub mod Taken
pub mod Taking
pub mod Held
pub mod Read
