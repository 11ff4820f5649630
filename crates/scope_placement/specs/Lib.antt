pub mod Building
pub mod Laws
pub mod Placed
pub mod Worked
