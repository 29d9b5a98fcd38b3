pub mod Firsts
pub mod Positions
pub mod Right
pub mod Short
pub mod Worked
