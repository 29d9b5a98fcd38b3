pub mod Numbered
pub mod Due
pub mod First
pub mod Kept
pub mod Calls
pub mod Same
