pub mod Begins
pub mod Function
pub mod Places
pub mod Whole
pub mod Written
