use Rattle.std.proofs.Common.{◌≡◌, ◌+◌, length, false}
use Rattle.c0_lexer.specs.Ends.{text_end}
use Rattle.c0_lexer.proofs.literal.text_length.Given as goal

abbrev pub invariant-loop-text : goal.invariant-loop-text
invariant-loop-text l = record {
  rest : text_end l.escaped l.at l.text ≡ text_end false l.initial.at l.initial.text;
  place : l.at + length l.text ≡ l.initial.at + length l.initial.text;
}

abbrev pub decreases-loop-text : goal.decreases-loop-text
decreases-loop-text l = length l.text
