pub use Rattle.lwe_core.specs.Phase
pub use Rattle.negacyclic.specs.Product
pub mod Glwe
pub mod Words
pub mod Laws
