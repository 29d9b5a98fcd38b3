pub mod Overs
pub mod Bodies
pub mod Done
pub mod Kept
pub mod Order
pub mod Calls
