pub mod Roles
pub mod Nesting
pub mod Counts
pub mod Standing
