pub mod Pipe
pub mod Kept
pub mod Story
pub mod Runs
pub mod Calls
