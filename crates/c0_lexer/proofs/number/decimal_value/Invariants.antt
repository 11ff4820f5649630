use Rattle.std.proofs.Common.{◌≡◌, ◌≤◌, drop}
use Rattle.c0_lexer.specs.Numbers.{digits_value}
use Rattle.c0_lexer.proofs.number.decimal_value.Given as goal

abbrev pub invariant-loop-b : goal.invariant-loop-b
invariant-loop-b l = record {
  rest : digits_value l.value (drop l.b-index l.digits) ≡ digits_value 0 l.digits;
  most : l.value ≤ 2147483648;
}
