pub mod Stands
mod Locals
mod Picks
mod Started
pub mod Fitting
pub mod Monitors
pub mod Groups
pub mod Choices
pub mod Throttles
pub mod Bodies
pub mod Ends
pub mod Pipes
pub mod Streams
pub mod Errors
pub mod Alarms
pub mod Works
mod Kept
pub mod Served
