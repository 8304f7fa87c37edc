pub mod RangesMore
pub mod HeadLimits
pub mod OutRanges
