pub mod Images
pub mod Loops
pub mod Parts
pub mod Pieces
pub mod Readers
