pub mod Found
pub mod Live
pub mod Laws
pub mod Renumbering
