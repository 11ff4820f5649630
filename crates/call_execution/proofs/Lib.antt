pub mod Fits
pub mod Growth
pub mod HeldRuns
mod Marks
mod Passing
pub mod Plain
mod Rests
mod Scalars
mod Stale
pub mod There
