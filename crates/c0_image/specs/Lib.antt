pub mod Compiled
pub mod Correct
