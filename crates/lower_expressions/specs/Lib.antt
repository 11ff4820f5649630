pub mod Building
pub mod Expressions
