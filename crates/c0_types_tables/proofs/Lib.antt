pub mod Levels
pub mod Numbers
pub mod SameTypes
pub mod Tables
