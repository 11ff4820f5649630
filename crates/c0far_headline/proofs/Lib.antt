pub mod Ends
pub mod Headlines
pub mod Ran
pub mod Shown
pub mod Tables
