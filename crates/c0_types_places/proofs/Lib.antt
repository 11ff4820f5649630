pub mod Locals
pub mod StructFields
pub mod Texts
pub mod TypedCalls
pub mod Wrapped
