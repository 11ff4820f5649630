mod Serving
pub mod Services
