pub mod ReadLimits
pub mod EntryWalk
pub mod KeySizes
pub mod Values
pub mod Documents
pub mod LimitTests
