pub mod Ends
pub mod Cutting
pub mod Meeting
