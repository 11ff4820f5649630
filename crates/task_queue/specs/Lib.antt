pub mod Queues
pub mod Tasked
