pub mod Accepted
pub mod Deciding
pub mod Firsts
pub mod Ranges
pub mod Unfaulted
