pub mod Alike
pub mod CountsOf
pub mod Holding
mod Kept
mod Laws
mod Missing
mod Opening
mod Performing
pub mod Places
mod Together
mod Running
mod Scaling
mod Seated
mod Ways
pub mod Writing
