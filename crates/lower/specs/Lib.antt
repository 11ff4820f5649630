pub mod Building
pub mod Coded
pub mod Exits
pub mod Laws
pub mod Lowered
