pub mod Sharing
pub mod Here
pub mod Going
pub mod Given
