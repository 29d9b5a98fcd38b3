pub mod Ready
pub mod Steps
pub mod Typed
pub mod Worlds
pub mod Throttled
pub mod Asks
