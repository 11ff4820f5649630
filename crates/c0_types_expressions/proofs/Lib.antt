pub mod ArgumentLists
pub mod CallForms
pub mod Evaluations
pub mod FormAnswers
pub mod FormCauses
pub mod Operands
pub mod PlaceForms
pub mod Refusals
