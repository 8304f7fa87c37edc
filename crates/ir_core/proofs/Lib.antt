pub mod Places
pub mod Uses
pub mod Kept
pub mod Renaming
pub mod Sorting
pub mod PlacedGraphs
pub mod OperationAt
pub mod Changes
