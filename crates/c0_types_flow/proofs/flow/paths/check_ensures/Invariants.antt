use Rattle.std.proofs.Common.{◌≡◌, map, drop}
use Rattle.std.specs.List.{list_any}
use Rattle.c0_syntax.specs.Views.{annotation_of, statements_of, typed_name_of}
use Rattle.c0_rules.specs.Mentions.{specs_in, statements_assign}
use Rattle.c0_rules.specs.Programs.{is_assigned_parameter, names_in_ensures, names_of}
use Rattle.c0_types_flow.proofs.flow.paths.check_ensures.Given as goal

-- what is left decides
abbrev pub invariant-loop-annotation : goal.invariant-loop-annotation
invariant-loop-annotation l =
    list_any (is_assigned_parameter (names_of (map typed_name_of l.header.parameters.items)) (statements_assign (statements_of l.body)))
    (names_in_ensures (specs_in (map annotation_of (drop l.annotation-index l.header.annotations.items))))
    ≡ list_any (is_assigned_parameter (names_of (map typed_name_of l.header.parameters.items)) (statements_assign (statements_of l.body))) (names_in_ensures (specs_in (map annotation_of l.header.annotations.items)))
