pub mod Syntax
pub mod Mirror
