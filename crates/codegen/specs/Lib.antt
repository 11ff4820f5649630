pub mod Building
pub mod Correct
pub mod Generated
pub mod Samples
