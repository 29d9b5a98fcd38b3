pub mod Calls
pub mod Clock
pub mod Kept
pub mod Order
pub mod Story
