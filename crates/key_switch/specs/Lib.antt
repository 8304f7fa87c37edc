pub mod Key
pub mod Switching
pub mod Laws
