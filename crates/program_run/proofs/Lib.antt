pub mod Acting
pub mod Ending
pub mod Growing
