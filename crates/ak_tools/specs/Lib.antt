pub mod Compiling
pub mod Status
pub mod Stops
pub mod Words
