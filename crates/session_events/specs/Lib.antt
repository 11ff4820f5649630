pub mod Knowing
pub mod Laws
pub mod Listed
pub mod OneWorld
pub mod Together
