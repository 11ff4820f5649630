use Rattle.std.proofs.Common.{◌≡◌, length}
use Rattle.c0_source.specs.Spelling.{use_value}
use Rattle.c0_parser_cursor.proofs.directives.used_value.Given as goal

-- what is left names what all of it names
abbrev pub invariant-loop-rest : goal.invariant-loop-rest
invariant-loop-rest l = use_value l.rest ≡ use_value l.bytes

abbrev pub decreases-loop-rest : goal.decreases-loop-rest
decreases-loop-rest l = length l.rest
