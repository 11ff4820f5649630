pub mod Fitting
pub mod Tabled
