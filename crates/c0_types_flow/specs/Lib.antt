pub mod FlowViews
