mod Steps
pub mod Kept
pub mod Order
pub mod Calls
