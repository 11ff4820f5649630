pub mod ContractSteps
