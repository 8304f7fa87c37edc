pub mod Product
pub mod Laws
pub mod FullProduct
