pub mod Characters
pub mod Ends
pub mod Lexed
pub mod Numbers
pub mod Pieces
pub mod Tables
