mod Adding
pub mod Visits
