pub mod Lines
pub mod Numerals
