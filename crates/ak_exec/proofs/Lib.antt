mod Values
pub mod Typed
mod Groups
mod Lists
pub mod Way
pub mod Returned
pub mod Picks
pub mod Asking
pub mod Whole
mod Throttled
mod Piped
mod Answered
