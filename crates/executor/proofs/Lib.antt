pub mod Composed
pub mod Working
pub mod Together
