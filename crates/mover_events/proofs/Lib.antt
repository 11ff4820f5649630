mod Beginning
mod Lives
mod Marking
pub mod Serving
pub mod Visiting
pub mod Making
pub mod Parts
pub mod Notes
pub mod Served
pub mod Unkept
pub mod Placed
