pub mod Throttles
pub mod Pipes
