pub mod Spellings
pub mod Lengths
pub mod Tokens
pub mod Reading
pub mod Pieces
pub mod Laws
