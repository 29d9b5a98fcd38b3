pub mod Passing
pub mod Replays
