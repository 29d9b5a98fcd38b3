pub mod Lists
pub mod Doing
pub mod Going
pub mod Steps
pub mod Waiting
pub mod Asking
pub mod Happening
