pub mod FileTexts
pub mod MemTexts
