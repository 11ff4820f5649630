pub mod Entering
pub mod Gathering
pub mod Ordered
pub mod Same
pub mod Scopes
pub mod Told
