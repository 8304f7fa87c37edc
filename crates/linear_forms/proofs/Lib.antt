pub mod Sizes
pub mod Ring
pub mod Terms
pub mod Values
