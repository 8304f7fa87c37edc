pub mod Sums
pub mod Products
