pub mod Choices
pub mod Search
pub mod Laws
