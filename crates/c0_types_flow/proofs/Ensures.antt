-- Assigned variables in `ensures`.
use Rattle.std.proofs.Common.{◌≡◌, List, [], ◌∷◌, map, refl, sym, ap, ◌∙◌, Bool, true, false}
use Rattle.std.specs.Prelude.{◌&&◌, ◌||◌, not, filter_map}
use Rattle.std.specs.List.{list_any}
use Rattle.c0_syntax.specs.declared.program.TypedName.{TypedName}
use Rattle.c0_syntax.specs.declared.statement.Spec.{Spec}
use Rattle.c0_syntax.specs.declared.statement.Statement.{Statement}
use Rattle.c0_syntax.specs.Views.{expression_of, spec_of, statements_of, typed_name_of}
use Rattle.c0_rules.specs.Programs.{is_assigned_parameter, names_of}
use Rattle.c0_rules.specs.Types.{Name}
use Rattle.c0_rules.specs.Mentions.{Mention, OfVariable, OfFunction, OfText, variable_of, variables_in, condition_of, statements_assign}
use Rattle.c0_rules.specs.Statements.{Postcondition, role_of, same_role}
use Rattle.c0_types_flow.specs.FlowViews.{is_assigned_by}
use Rattle.c0_types_flow.proofs.Steps.{condition_same}

-- what names no parameter that is assigned reads none
pub any_assigned : (parameters : List TypedName) (body : List Statement) (ms : List Mention)
    → list_any (is_assigned_by parameters body) ms ≡ list_any (is_assigned_parameter (names_of (map typed_name_of parameters)) (statements_assign (statements_of body))) (filter_map variable_of ms)
any_assigned parameters body [] = refl
any_assigned parameters body (OfVariable n ∷ ms) =
    ap (λ z. is_assigned_parameter (names_of (map typed_name_of parameters)) (statements_assign (statements_of body)) n || z) (any_assigned parameters body ms)
any_assigned parameters body (OfFunction n ∷ ms) = any_assigned parameters body ms
any_assigned parameters body (OfText n ∷ ms) = any_assigned parameters body ms

-- what one spec reads, where it is an `ensures`
abbrev pub ensures_part : Spec → List Name
ensures_part x = elim (same_role Postcondition (role_of (spec_of x))) [ true ↦ variables_in (condition_of (spec_of x)) | false ↦ [] ]

chosen : (b : Bool) (names others : List Name) (is : Name → Bool) → names ≡ others → list_any is (elim b [ true ↦ names | false ↦ [] ]) ≡ (b && list_any is others)
chosen true names others is e = ap (list_any is) e
chosen false names others is e = refl

pub part_passes : (x : Spec) (is : Name → Bool) → true ≡ not (same_role Postcondition (role_of (spec_of x)) && list_any is (variables_in (expression_of x.condition))) → true ≡ not (list_any is (ensures_part x))
part_passes x is e =
    e ∙ ap not (sym (chosen (same_role Postcondition (role_of (spec_of x))) (variables_in (condition_of (spec_of x))) (variables_in (expression_of x.condition)) is (ap variables_in (condition_same x))))
