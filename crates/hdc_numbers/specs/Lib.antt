pub mod Numbers
pub mod Binders
