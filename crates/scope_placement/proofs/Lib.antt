pub mod Disciplined
pub mod Formed
pub mod Opening
pub mod Rows
pub mod Same
pub mod Sizes
