use Rattle.std.proofs.Common.{◌≡◌, map, drop}
use Rattle.c0_rules.specs.Types.{same_types}
use Rattle.c0_types_tables.specs.Views.{resolved_of}
use Rattle.c0_types_tables.proofs.signatures.same_types.Given as goal

-- what is left to compare decides
abbrev pub invariant-loop-i : goal.invariant-loop-i
invariant-loop-i l = same_types (map resolved_of (drop l.i l.types)) (map resolved_of (drop l.i l.others)) ≡ same_types (map resolved_of l.types) (map resolved_of l.others)
