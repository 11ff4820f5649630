pub mod Orders
pub mod Rows
pub mod Runs
pub mod Tests
