use Rattle.std.proofs.Common.{◌≡◌, [], length}
use Rattle.std.specs.String.{string_bytes}
use Rattle.c0_source.specs.Spelling.{angled}
use Rattle.c0_parser_cursor.proofs.directives.angled.Given as goal

-- what is left names, behind the letters so far, what all of it names
abbrev pub invariant-loop-rest : goal.invariant-loop-rest
invariant-loop-rest l = angled (string_bytes l.name) l.rest ≡ angled [] l.bytes

abbrev pub decreases-loop-rest : goal.decreases-loop-rest
decreases-loop-rest l = length l.rest
