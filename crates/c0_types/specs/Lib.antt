pub mod DeclareViews
pub mod FunctionViews
