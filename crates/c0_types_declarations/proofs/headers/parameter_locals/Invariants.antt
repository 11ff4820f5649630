use Rattle.std.proofs.Common.{◌≡◌, ◌++◌, ◌+◌, drop, map}
use Rattle.c0_syntax.specs.Views.{typed_name_of}
use Rattle.c0_rules.specs.Programs.{parameters_from}
use Rattle.c0_types_terms.specs.Terms.{local_of}
use Rattle.c0_types_tables.specs.Views.{resolved_of}
use Rattle.c0_types_declarations.proofs.headers.parameter_locals.Given as goal

-- the locals so far, and those of what is left
abbrev pub invariant-loop-i : goal.invariant-loop-i
invariant-loop-i l = map local_of l.locals.items ++ parameters_from (l.i + 1) (map typed_name_of (drop l.i l.items)) (map resolved_of (drop l.i l.types)) ≡ parameters_from 1 (map typed_name_of l.items) (map resolved_of l.types)
