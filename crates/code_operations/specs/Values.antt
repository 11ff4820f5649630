-- Simple instructions that compute.
use Rattle.std.specs.Prelude.{Bool, true, false}
use Rattle.code_form.specs.declared.form.Operation.{Operation}
use Rattle.code_form.specs.declared.form.Operation.TheVariants.{Const, TextOf, BoolOf, CharOf, Null, Move, Binary, Unary, Compare}

-- a simple instruction that computes a value from values
abbrev pub is_of_values : Operation → Bool
is_of_values (Const d z) = true
is_of_values (TextOf d n) = true
is_of_values (BoolOf d b) = true
is_of_values (CharOf d c) = true
is_of_values (Null d) = true
is_of_values (Move d a) = true
is_of_values (Binary o d a b) = true
is_of_values (Unary u d a) = true
is_of_values (Compare r d a b) = true
is_of_values _ = false
