pub mod Staying
pub mod Waiting
pub mod Fetching
pub mod Threads
