pub mod Cursors
pub mod Turned
pub mod Stepped
pub mod TextValues
