pub mod Running
pub mod Rooms
pub mod Steps
pub mod Noise
pub mod Laws
