use Rattle.std.proofs.Common.{◌≡◌, ◌+◌, ◌≤◌, length}
use Rattle.c0_lexer.specs.Ends.{comment_end}
use Rattle.c0_lexer.proofs.comment.comment_length.Given as goal

abbrev pub invariant-loop-text : goal.invariant-loop-text
invariant-loop-text l = record {
  rest : comment_end l.deeper l.before l.at l.text ≡ comment_end 0 0 0 l.initial.text;
  place : l.at + length l.text ≡ length l.initial.text;
  depth : l.deeper ≤ l.at;
}

abbrev pub decreases-loop-text : goal.decreases-loop-text
decreases-loop-text l = length l.text
