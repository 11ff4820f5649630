pub mod ExpressionLoops
