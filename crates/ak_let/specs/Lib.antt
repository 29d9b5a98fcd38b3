pub mod Eval
pub mod Compile
pub mod Correct
pub mod Worked
pub mod Meaning
pub mod Rows
