pub mod Entries
pub mod Verified
pub mod WellFormed
pub mod Worked
