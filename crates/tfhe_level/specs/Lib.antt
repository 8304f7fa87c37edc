pub mod Limits
pub mod Operations
pub mod PutOperands
pub mod Nodes
pub mod Counts
pub mod Rules
pub mod Laws
