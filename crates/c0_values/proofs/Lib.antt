pub mod Heaps
pub mod Parts
