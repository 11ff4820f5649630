pub mod Driven
pub mod FileCode
pub mod Lives
pub mod NoCode
pub mod Places
pub mod Replays
pub mod Runs
