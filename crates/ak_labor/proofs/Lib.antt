pub mod Arrivals
pub mod Faults
mod Hands
