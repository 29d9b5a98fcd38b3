pub mod Compiles
pub mod Named
pub mod Text
pub mod Words
