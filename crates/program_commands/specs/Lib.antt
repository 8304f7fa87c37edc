pub mod Words
pub mod Programs
pub mod Clear
pub mod Compile
pub mod Check
pub mod Found
pub mod Headline
