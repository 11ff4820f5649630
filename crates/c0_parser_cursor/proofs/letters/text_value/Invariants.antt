use Rattle.std.proofs.Common.{◌≡◌, false, length}
use Rattle.std.specs.String.{string_bytes}
use Rattle.c0_source.specs.Spelling.{text_value}
use Rattle.c0_parser_cursor.proofs.TextValues.{behind}
use Rattle.c0_parser_cursor.proofs.letters.text_value.Given as goal

-- what is left has the value that all of it has, behind the bytes so far
abbrev pub invariant-loop-rest : goal.invariant-loop-rest
invariant-loop-rest l = behind (string_bytes l.text) (text_value l.escaped l.rest) ≡ text_value false l.bytes

abbrev pub decreases-loop-rest : goal.decreases-loop-rest
decreases-loop-rest l = length l.rest
