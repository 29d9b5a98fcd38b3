pub mod Outside
pub mod Tallies
pub mod Answers
pub mod Story
