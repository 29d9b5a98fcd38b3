pub mod Readings
pub mod TakenRows
