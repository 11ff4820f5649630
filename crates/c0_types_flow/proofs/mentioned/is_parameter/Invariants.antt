use Rattle.std.proofs.Common.{◌≡◌, drop, map}
use Rattle.c0_syntax.specs.Views.{typed_name_of}
use Rattle.c0_rules.specs.Programs.{names_of}
use Rattle.c0_rules.specs.Types.{is_among}
use Rattle.c0_types_flow.proofs.mentioned.is_parameter.Given as goal

-- what is left decides
abbrev pub invariant-loop-parameter : goal.invariant-loop-parameter
invariant-loop-parameter l = is_among l.name (names_of (map typed_name_of (drop l.parameter-index l.parameters))) ≡ is_among l.name (names_of (map typed_name_of l.parameters))
