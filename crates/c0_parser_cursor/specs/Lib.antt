pub mod Found
pub mod FoundUses
pub mod Remaining
