pub mod Words
pub mod Rows
pub mod Rounding
pub mod Signed
pub mod RowLaws
