pub mod Ended
pub mod Found
pub mod FoundPrograms
pub mod Stands
