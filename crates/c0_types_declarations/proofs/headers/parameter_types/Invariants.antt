use Rattle.std.proofs.Common.{map}
use Rattle.c0_types_tables.specs.Views.{environment_of, resolved_of}
use Rattle.c0_types_declarations.proofs.HeaderLists.{Takes}
use Rattle.c0_types_declarations.proofs.headers.parameter_types.Given as goal

-- the types so far, and what is left to look at
abbrev pub invariant-loop-item : goal.invariant-loop-item
invariant-loop-item l = Takes (environment_of l.environment) (map resolved_of l.types.items) l.item-index l.items
