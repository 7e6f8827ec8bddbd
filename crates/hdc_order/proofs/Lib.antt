pub mod Leading
pub mod Members
pub mod Taking
pub mod Grouping
pub mod Arranging
pub mod Renumbering
