use Rattle.std.proofs.Common.{◌≡◌, drop}
use Rattle.c0_syntax.specs.Views.{name_of}
use Rattle.c0_types_tables.specs.Views.{environment_of}
use Rattle.c0_types_declarations.proofs.ParameterNames.{are_free}
use Rattle.c0_types_declarations.proofs.headers.check_locals.Given as goal

-- what is left to look at
abbrev pub invariant-loop-parameter : goal.invariant-loop-parameter
invariant-loop-parameter l = are_free (environment_of l.environment) (name_of l.own) (drop l.parameter-index l.parameters) ≡ are_free (environment_of l.environment) (name_of l.own) l.parameters
