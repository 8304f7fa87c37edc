pub mod Forms
pub mod Laws
pub mod Limits
pub mod Ranges
pub mod Terms
pub mod FromEarlier
