pub mod Ends
pub mod Tables
pub mod Words
pub mod Signs
pub mod Comments
pub mod Literals
pub mod Numbers
pub mod Reached
