pub mod WordLaws
pub mod RowLaws
pub mod RoundingParts
pub mod SignedParts
pub mod RowLoops
pub mod RowRing
pub mod RowTotals
pub mod Examples
