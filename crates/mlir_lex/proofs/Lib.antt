pub mod Fronts
pub mod Gaps
pub mod FirstBytes
pub mod Longest
pub mod Readings
pub mod ReadingLemmas
pub mod PieceReadings
