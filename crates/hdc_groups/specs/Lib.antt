pub mod TopUses
pub mod Needs
