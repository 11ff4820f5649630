pub mod Opened
pub mod Happening
pub mod Replaying
pub mod Starving
