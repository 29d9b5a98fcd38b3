pub mod Compiled
pub mod Script
