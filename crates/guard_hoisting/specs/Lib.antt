pub mod Building
pub mod Hoisted
pub mod Laws
pub mod Ways
