pub mod Laws
pub mod Layouts
pub mod Meaning
pub mod More
pub mod Trees
pub mod Typing
pub mod Values
pub mod Views
