pub mod Images
pub mod Laws
pub mod Passes
pub mod Worked
pub mod WorkedPasses
