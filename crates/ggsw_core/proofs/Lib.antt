pub mod Totals
pub mod Phases
pub mod NoiseParts
pub mod Additions
pub mod Rows
pub mod Steps
mod Examples
