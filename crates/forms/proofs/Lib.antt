pub mod FormRanges
pub mod Corners
