use Rattle.std.proofs.Common.{◌≡◌, ◌≤◌, drop}
use Rattle.c0_lexer.specs.Numbers.{hex_value}
use Rattle.c0_lexer.proofs.number.hexadecimal_value.Given as goal

abbrev pub invariant-loop-b : goal.invariant-loop-b
invariant-loop-b l = record {
  rest : hex_value l.value (drop l.b-index l.digits) ≡ hex_value 0 l.digits;
  most : l.value ≤ 4294967295;
}
