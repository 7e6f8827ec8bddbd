pub mod Agreement
pub mod Ranks
pub mod Listing
pub mod Substitution
pub mod Closing
pub mod Steps
pub mod Finding
pub mod Projecting
