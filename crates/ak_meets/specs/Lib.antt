pub mod Calls
pub mod Meets
pub mod Printing
