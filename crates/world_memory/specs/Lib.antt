pub mod Tables
pub mod Berths
pub mod Shown
pub mod Answered
