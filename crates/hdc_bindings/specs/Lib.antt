pub mod Resolving
pub mod Blocks
pub mod Tops
pub mod Defined
pub mod Opening
pub mod Law
pub mod Choices
