pub mod CodeLists
pub mod CodeRows
