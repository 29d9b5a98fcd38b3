pub mod Answers
pub mod NameFaults
pub mod Numbered
pub mod Places
pub mod Refusals
pub mod Rows
