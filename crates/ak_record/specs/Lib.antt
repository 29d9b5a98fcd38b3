pub mod Cuts
pub mod Records
pub mod Walks
