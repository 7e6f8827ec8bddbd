pub mod Known
pub mod Names
pub mod Types
pub mod Bindings
pub mod Adjacent
pub mod Uses
pub mod Scan
