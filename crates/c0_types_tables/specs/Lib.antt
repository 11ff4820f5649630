pub mod Numbered
pub mod Views
