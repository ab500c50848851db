pub mod Subtree
pub mod Costs
