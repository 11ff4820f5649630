pub mod Commands
pub mod Layouts
pub mod Outcomes
pub mod Values
