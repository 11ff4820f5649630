pub mod MeantLines
pub mod Refusals
pub mod Shown
pub mod Stats
pub mod Statuses
pub mod Wants
