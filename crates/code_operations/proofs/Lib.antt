mod Allocated
pub mod Placing
mod Texts
