pub mod Going
pub mod Laws
pub mod Making
pub mod Parts
