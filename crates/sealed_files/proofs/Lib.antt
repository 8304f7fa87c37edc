pub mod Sizes
pub mod WordLemmas
pub mod HeaderLemmas
pub mod FrameTaken
pub mod FrameAgain
pub mod Matches
