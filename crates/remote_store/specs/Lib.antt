pub mod Faults
pub mod Kept
pub mod Lies
pub mod Refusing
