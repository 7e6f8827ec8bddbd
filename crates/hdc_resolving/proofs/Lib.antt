pub mod Entering
pub mod Members
pub mod Chains
pub mod Wrapping
pub mod Patterns
