pub mod Counted
pub mod Bounds
pub mod Standing
