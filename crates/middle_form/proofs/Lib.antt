pub mod Computing
pub mod ScopedComputing
