pub mod Bytes
pub mod Encodable
pub mod Parts
pub mod Worked
