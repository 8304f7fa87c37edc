pub mod BootKey
pub mod Bootstrap
pub mod Fits
pub mod Noise
pub mod Laws
