pub mod Moving
pub mod Pieces
pub mod Written
