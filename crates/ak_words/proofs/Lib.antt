mod Places
pub mod Meanings
pub mod Usages
