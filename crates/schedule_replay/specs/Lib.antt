pub mod Reliable
pub mod Replayed
