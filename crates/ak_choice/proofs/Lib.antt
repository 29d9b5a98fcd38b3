pub mod Calls
pub mod Decided
pub mod Notes
pub mod Parts
