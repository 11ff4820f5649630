pub mod ContractViews
