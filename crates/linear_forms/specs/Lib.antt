pub mod Forms
pub mod Sound
pub mod Merging
pub mod Laws
pub mod Staying
