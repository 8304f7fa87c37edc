pub mod Placing
pub mod Placements
pub mod Laws
