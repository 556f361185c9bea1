pub mod Limits
pub mod Nodes
pub mod Trees
pub mod Kinds
