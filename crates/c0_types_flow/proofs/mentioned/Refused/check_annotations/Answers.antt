use Rattle.std.proofs.Common.{List, subst, inl, inr}
use Rattle.std.proofs.lemmas.Result.{err_from_is_err_and}
use Rattle.c0_syntax.specs.declared.statement.Annotation.{Annotation}
use Rattle.c0_rules.specs.FaultPaths.{NamedInAnnotations, NamedInSpecs}
use Rattle.c0_types_flow.specs.FlowViews.{refused_by, told_of}
use Rattle.c0_types_flow.proofs.Lists.{at_place}
use Rattle.c0_types_flow.proofs.mentioned.Refused.check_annotations.Goals as goal

pub returns-in_err-check_specs-clause-cause : goal.returns-in_err-check_specs-clause-cause
returns-in_err-check_specs-clause-cause c =
    let P : Annotation → Type 0 = λ x. NamedInSpecs (refused_by c.args.self.now) (told_of c.args.self.now) c.in_err-check_specs.field-0.0 x.specs.items in
    let Q : List Annotation → Type 0 = NamedInAnnotations (refused_by c.args.self.now) (told_of c.args.self.now) c.in_err-check_specs.field-0.0 in
    let p = err_from_is_err_and c.from_residual.result c.from_residual.ensures.1 in
    let found = subst (NamedInSpecs (refused_by c.args.self.now) (told_of c.args.self.now) c.in_err-check_specs.field-0.0) c.deref.ensures.value c.in_err-check_specs.ensures.cause in
    rw (p.1, p.2) (at_place P Q (λ x xs h. inl h) (λ x xs h. inr h) c.args.annotations.now c.loop-annotation.annotation-index c.annotation-item.result c.loop-annotation-test.true c.annotation-item.is found)
