pub mod LeftOperands
