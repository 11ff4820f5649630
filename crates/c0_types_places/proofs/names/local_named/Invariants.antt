use Rattle.std.proofs.Common.{◌≡◌, map, drop}
use Rattle.c0_rules.specs.Expressions as x
use Rattle.c0_types_terms.specs.Terms.{local_of}
use Rattle.c0_types_places.proofs.names.local_named.Given as goal

-- the first one is among what is left
abbrev pub invariant-loop-i : goal.invariant-loop-i
invariant-loop-i l = x.local_of (map local_of (drop l.i l.locals)) l.name ≡ x.local_of (map local_of l.locals) l.name
