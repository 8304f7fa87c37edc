pub mod Limits
pub mod Kinds
pub mod Frame
pub mod FrameReading
pub mod Matching
pub mod Laws
