pub mod Acting
pub mod Executed
pub mod Runs
