pub mod Places
pub mod Noise
pub mod Steps
pub mod Examples
