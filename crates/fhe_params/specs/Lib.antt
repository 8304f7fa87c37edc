pub mod Limits
pub mod Params
pub mod Table
pub mod Cost
pub mod Names
pub mod TableReading
pub mod Laws
