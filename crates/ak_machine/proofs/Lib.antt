pub mod Mapped
pub mod Names
pub mod Renamed
pub mod IvarsNamed
