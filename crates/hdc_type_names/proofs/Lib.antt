pub mod TypeLists
pub mod Listing
pub mod Written
