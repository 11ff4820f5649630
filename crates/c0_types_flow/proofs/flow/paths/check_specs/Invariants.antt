use Rattle.std.proofs.Common.{◌≡◌, map, drop}
use Rattle.std.specs.List.{list_any}
use Rattle.c0_syntax.specs.Views.{spec_of, statements_of, typed_name_of}
use Rattle.c0_rules.specs.Mentions.{statements_assign}
use Rattle.c0_rules.specs.Programs.{is_assigned_parameter, names_in_ensures, names_of}
use Rattle.c0_types_flow.proofs.flow.paths.check_specs.Given as goal

-- what is left decides
abbrev pub invariant-loop-spec : goal.invariant-loop-spec
invariant-loop-spec l =
    list_any (is_assigned_parameter (names_of (map typed_name_of l.parameters)) (statements_assign (statements_of l.body))) (names_in_ensures (map spec_of (drop l.spec-index l.specs)))
    ≡ list_any (is_assigned_parameter (names_of (map typed_name_of l.parameters)) (statements_assign (statements_of l.body))) (names_in_ensures (map spec_of l.specs))
