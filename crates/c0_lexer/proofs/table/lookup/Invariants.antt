use Rattle.std.proofs.Common.{◌≡◌, drop, map}
use Rattle.c0_source.specs.Spelling.{lookup}
use Rattle.c0_lexer.specs.Tables.{entry}
use Rattle.c0_lexer.proofs.table.lookup.Given as goal

abbrev pub invariant-loop-word : goal.invariant-loop-word
invariant-loop-word l = lookup (map entry (drop l.word-index l.table)) l.text ≡ lookup (map entry l.table) l.text
