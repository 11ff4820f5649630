pub mod Seats
pub mod Asking
pub mod Acting
