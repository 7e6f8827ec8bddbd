pub mod Needs
pub mod Search
pub mod Numbers
pub mod Groups
pub mod Lists
pub mod Labels
pub mod Schedule
pub mod Filling
