pub mod Fronts
pub mod LineForms
pub mod Parsed
pub mod Shapes
