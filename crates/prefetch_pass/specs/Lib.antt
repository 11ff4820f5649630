pub mod Gathered
pub mod Laws
pub mod Prefetched
pub mod Raised
pub mod Worked
