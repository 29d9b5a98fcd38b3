pub mod Throttle
pub mod Started
pub mod Seen
pub mod Story
pub mod Runs
pub mod Calls
pub mod Held
