pub mod Places
pub mod Types
pub mod Bindings
pub mod Constructors
pub mod Locals
pub mod Ranges
pub mod Binders
