pub mod Changes
pub mod Lists
pub mod Places
pub mod Showing
pub mod Steps
pub mod Walks
