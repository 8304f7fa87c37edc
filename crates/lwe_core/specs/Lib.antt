pub use Rattle.word_ring.specs.Words
pub use Rattle.word_ring.specs.Rows
pub mod Secret
pub mod Phase
pub mod Decoding
pub mod Encrypts
pub mod Laws
