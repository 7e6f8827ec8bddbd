pub mod Counts
pub mod Held
pub mod Read
pub mod Taken
