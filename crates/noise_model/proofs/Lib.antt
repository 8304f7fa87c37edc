pub mod CappedSums
pub mod NodeBounds
pub mod FirstEdges
pub mod Comparisons
pub mod Products
mod Examples
