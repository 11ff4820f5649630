pub mod Earlier
pub mod FieldLists
pub mod HeaderLists
pub mod ParameterNames
pub mod Signatures
