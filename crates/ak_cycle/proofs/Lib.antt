pub mod Turns
pub mod Under
mod Jobs
mod Asked
mod Rounds
mod Own
