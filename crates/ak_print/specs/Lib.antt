pub mod Line
pub mod Piece
pub mod Work
