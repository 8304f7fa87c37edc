pub mod Limits
pub mod Operations
pub mod PutOperands
pub mod Patterns
pub mod Rules
