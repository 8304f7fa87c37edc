pub mod Shapes
pub mod Front
pub mod Back
pub mod Laws
