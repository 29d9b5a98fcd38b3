pub mod Monitors
pub mod Trees
pub mod Ways
