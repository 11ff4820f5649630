pub mod Named
pub mod Queues
