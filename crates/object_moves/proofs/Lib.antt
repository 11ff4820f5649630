mod Adding
mod Copying
pub mod Filling
mod Looking
mod Taking
pub mod Visiting
