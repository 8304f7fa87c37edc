pub mod Sums
pub mod Signs
pub mod Coefficients
pub mod Polynomials
pub mod Rotations
pub mod RotatedProducts
pub mod Sizes
pub mod ProductLoops
mod Examples
pub mod Pairs
pub mod Joins
pub mod Halves
pub mod Powers
