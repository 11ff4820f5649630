use Rattle.std.proofs.Common.{◌-◌, length, map}
use Rattle.c0_lexer.specs.Lexed.{lexeme}
use Rattle.c0_lexer.proofs.Reached.{Reached}
use Rattle.c0_lexer.proofs.lex.tokens_of.Given as goal

abbrev pub invariant-loop-at : goal.invariant-loop-at
invariant-loop-at l = Reached l.text l.mode l.opening l.at (map lexeme l.tokens.items)

abbrev pub decreases-loop-at : goal.decreases-loop-at
decreases-loop-at l = length l.text - l.at
