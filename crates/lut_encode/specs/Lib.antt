pub mod TestPolynomial
pub mod Laws
