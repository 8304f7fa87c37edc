pub mod Bounds
pub mod Constraints
pub mod Edges
pub mod Circuits
pub mod Laws
