pub mod Tests
pub mod Lines
pub mod Nodes
pub mod Fitting
pub mod Walk
pub mod Laws
