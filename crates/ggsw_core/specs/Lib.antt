pub mod Ggsw
pub mod Noise
