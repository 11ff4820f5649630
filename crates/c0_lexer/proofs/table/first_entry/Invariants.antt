use Rattle.std.proofs.Common.{◌≡◌, drop, map}
use Rattle.c0_lexer.specs.Tables.{entry, first_entry}
use Rattle.c0_lexer.proofs.table.first_entry.Given as goal

abbrev pub invariant-loop-sign : goal.invariant-loop-sign
invariant-loop-sign l = first_entry (map entry (drop l.sign-index l.table)) l.text ≡ first_entry (map entry l.table) l.text
