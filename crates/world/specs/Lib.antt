pub mod Parts
pub mod Reports
pub mod Stepped
pub mod Telling
pub mod Opened
