pub mod Gathered
pub mod Indexed
pub mod Kinds
pub mod Known
pub mod Tables
pub mod Texts
