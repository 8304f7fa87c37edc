pub mod NodeLines
pub mod Prefixes
pub mod Lists
pub mod FewNodes
pub mod Costs
pub mod TextSize
