pub mod InMemory
pub mod Lists
pub mod Numbers
pub mod Streams
