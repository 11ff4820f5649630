pub mod Berthed
pub mod Showing
