pub mod Expanded
pub mod Needs
pub mod Datas
pub mod Settled
pub mod Closures
