pub mod Asked
pub mod Behind
pub mod Brought
pub mod Once
