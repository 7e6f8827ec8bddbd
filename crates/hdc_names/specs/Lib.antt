pub mod OperatorTrees
pub mod Grouping
pub mod Chain
pub mod Fixities
pub mod Sites
pub mod Trees
pub mod Walk
