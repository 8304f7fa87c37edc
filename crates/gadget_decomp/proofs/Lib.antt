pub mod Places
pub mod Decompositions
pub mod DigitSizes
pub mod Machine
pub mod Polynomials
pub mod Examples
