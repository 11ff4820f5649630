pub mod Forgetting
pub mod Never
