pub mod DeclarationSteps
pub mod Earlier
pub mod MainSteps
pub mod TextSteps
