pub mod Examples
mod WorkedShapes
pub mod Counting
pub mod ValueRanges
