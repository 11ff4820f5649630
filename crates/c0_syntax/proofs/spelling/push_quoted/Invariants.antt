use Rattle.std.proofs.Common.{◌≡◌, ◌++◌, drop}
use Rattle.std.specs.String.{string_bytes}
use Rattle.c0_syntax.specs.Spellings.{all_escaped}
use Rattle.c0_syntax.proofs.spelling.push_quoted.Given as goal

-- what is written, and what the other bytes will add
abbrev pub invariant-loop-byte : goal.invariant-loop-byte
invariant-loop-byte l = string_bytes l.text ++ all_escaped (drop l.byte-index l.quoted) ≡ string_bytes l.initial.text ++ all_escaped l.quoted
