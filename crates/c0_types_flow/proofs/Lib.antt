pub mod Collected
pub mod Ends
pub mod Ensures
pub mod Flows
pub mod Lists
pub mod Rows
pub mod Steps
