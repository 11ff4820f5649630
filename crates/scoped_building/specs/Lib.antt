pub mod Building
pub mod Places
