mod Examples
pub mod Widths
pub mod Steps
pub mod Whole
pub mod Values
pub mod Entries
pub mod Clears
pub mod Graphs
pub mod Checked
