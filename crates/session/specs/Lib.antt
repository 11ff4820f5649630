pub mod Keeping
pub mod Performing
pub mod Pieces
pub mod State
pub mod Stepping
pub mod Following
