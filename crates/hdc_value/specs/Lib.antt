pub mod Arithmetic
pub mod Answer
