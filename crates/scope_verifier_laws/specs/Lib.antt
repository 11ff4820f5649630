pub mod Decided
pub mod FaultNumbers
pub mod Faults
pub mod First
pub mod Laws
pub mod Numbers
pub mod Worked
