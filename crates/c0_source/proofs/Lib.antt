pub mod Once
pub mod Scanned
pub mod Blanks
pub mod Rises
pub mod Told
