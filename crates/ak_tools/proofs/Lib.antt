pub mod Scripts
pub mod Usages
