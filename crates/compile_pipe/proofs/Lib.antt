pub mod Shapes
pub mod Choosing
pub mod Whole
