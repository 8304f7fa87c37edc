pub mod Words
pub mod Run
pub mod Found
pub mod Headline
