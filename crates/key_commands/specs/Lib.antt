pub mod Words
pub mod Decrypt
pub mod Encrypt
pub mod Keygen
pub mod Found
pub mod Headline
pub mod ReadLemmas
