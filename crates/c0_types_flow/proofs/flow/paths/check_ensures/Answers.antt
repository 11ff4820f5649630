use Rattle.std.proofs.Common.{List, inl, inr, subst}
use Rattle.std.proofs.lemmas.Result.{err_from_is_err_and}
use Rattle.c0_source.specs.declared.fault.Fault.{Fault}
use Rattle.c0_syntax.specs.declared.statement.Annotation.{Annotation}
use Rattle.c0_rules.specs.FaultPrograms.{AssignedParameter, AssignedParameters, is_assigned_in}
use Rattle.c0_types_flow.proofs.Lists.{at_place}
use Rattle.c0_types_flow.proofs.flow.paths.check_ensures.Goals as goal

pub returns-in_err-check_specs-clause-cause : goal.returns-in_err-check_specs-clause-cause
returns-in_err-check_specs-clause-cause c =
    let fault : Fault = c.in_err-check_specs.field-0.0 in
    let P : Annotation → Type 0 = λ x. AssignedParameter fault (is_assigned_in fault c.args.header.now.parameters.items c.args.body.now) x.specs.items in
    let Q : List Annotation → Type 0 = AssignedParameters fault (is_assigned_in fault c.args.header.now.parameters.items c.args.body.now) in
    let p = err_from_is_err_and c.from_residual.result c.from_residual.ensures.1 in
    let found = rw (c.deref.ensures.value, c.deref-in-loop-annotation.ensures.value) at c.in_err-check_specs.ensures.cause in
    rw (p.1, p.2) (subst Q c.deref-annotation-items.ensures.value (at_place P Q (λ x xs h. inl h) (λ x xs h. inr h) c.deref-annotation-items.result.now c.loop-annotation.annotation-index c.annotation-item.result c.loop-annotation-test.true c.annotation-item.is found))
