pub mod Cells
pub mod Ops
pub mod Soundness
pub mod Turns
