pub mod Following
pub mod Stacks
pub mod Statuses
