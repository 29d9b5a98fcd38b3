pub mod Going
pub mod Legality
pub mod Lines
pub mod Readings
pub mod Rows
pub mod Things
pub mod Walks
pub mod Written
