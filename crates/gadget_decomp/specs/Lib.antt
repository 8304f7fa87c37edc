pub mod Decomposition
pub mod Laws
