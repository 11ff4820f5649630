pub mod Admission
pub mod Faults
pub mod Finding
pub mod Regions
