pub mod Complaints
pub mod Help
pub mod Mistakes
pub mod Options
pub mod Shell
