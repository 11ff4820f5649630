use Rattle.std.proofs.Common.{◌≡◌, Bool, true, List, [], ◌∷◌, map, ◌∙◌, inl, inr, refl}
use Rattle.std.proofs.lemmas.Result.{err_from_is_err_and}
use Rattle.c0_source.specs.declared.fault.Fault.{Fault}
use Rattle.c0_source.specs.declared.fault.FaultKind.TheVariants.{BadContract}
use Rattle.c0_syntax.specs.declared.statement.Spec.{Spec}
use Rattle.c0_syntax.specs.Views.{spec_of, statements_of, typed_name_of}
use Rattle.c0_rules.specs.FaultPaths.{NamedInSpecs}
use Rattle.c0_rules.specs.FaultPrograms.{AssignedParameter, is_assigned_in}
use Rattle.c0_rules.specs.Mentions.{statements_assign}
use Rattle.c0_rules.specs.Programs.{is_assigned_parameter, names_in_ensures, names_of}
use Rattle.c0_rules.specs.Statements.{Postcondition, role_of, same_role}
use Rattle.c0_rules.specs.Types.{Name}
use Rattle.c0_types_flow.proofs.Ensures.{ensures_part, part_passes}
use Rattle.c0_types_flow.proofs.Lists.{at_place, step_past}
use Rattle.c0_types_flow.proofs.flow.paths.check_specs.Goals as goal

pub returns-in_err-check_spec-clause-cause : goal.returns-in_err-check_spec-clause-cause
returns-in_err-check_spec-clause-cause c =
    let fault : Fault = c.in_err-check_spec.field-0.0 in
    let test = is_assigned_in fault c.args.parameters.now c.args.body.now in
    let P : Spec → Type 0 = λ x. (same_role Postcondition (role_of (spec_of x)) ≡ true) × NamedInSpecs test BadContract fault (x ∷ []) in
    let Q : List Spec → Type 0 = AssignedParameter fault test in
    let p = err_from_is_err_and c.from_residual.result c.from_residual.ensures.1 in
    rw (p.1, p.2) (at_place P Q (λ x xs h. inl h) (λ x xs h. inr h) c.args.specs.now c.loop-spec.spec-index c.spec-item.result c.loop-spec-test.true c.spec-item.is c.in_err-check_spec.ensures.cause)

pub loop-spec-preserved : goal.loop-spec-preserved
loop-spec-preserved c =
    let is : Name → Bool = is_assigned_parameter (names_of (map typed_name_of c.args.parameters.now)) (statements_assign (statements_of c.args.body.now)) in
    step_past is ensures_part (λ xs. names_in_ensures (map spec_of xs)) (λ x xs. refl) c.args.specs.now c.loop-spec.spec-index c.spec-item.result c.loop-spec-test.true c.spec-item.is
    (part_passes c.spec-item.result is c.in_ok-check_spec.ensures.answers)
    ∙ c.loop-spec.invariant
