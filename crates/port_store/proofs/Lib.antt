pub mod Told
pub mod Pieces
pub mod KeptLemmas
mod Accounts
