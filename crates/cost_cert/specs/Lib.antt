pub mod Limits
pub mod Certificate
pub mod Check
pub mod Laws
