pub mod Pendings
pub mod Run
