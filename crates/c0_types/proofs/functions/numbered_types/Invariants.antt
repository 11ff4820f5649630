use Rattle.std.proofs.Common.{◌≡◌, map, take}
use Rattle.c0_typed.specs.Views.{type_of}
use Rattle.c0_types_tables.specs.Views.{environment_of}
use Rattle.c0_types.specs.FunctionViews.{numbers_in}
use Rattle.c0_types.proofs.functions.numbered_types.Given as goal

-- the types so far
abbrev pub invariant-loop-resolved : goal.invariant-loop-resolved
invariant-loop-resolved l = map type_of l.numbered.items ≡ numbers_in (environment_of l.environment) (take l.resolved-index l.types)
