pub mod Deeds
pub mod Moving
pub mod Taken
pub mod Visits
pub mod Ways
