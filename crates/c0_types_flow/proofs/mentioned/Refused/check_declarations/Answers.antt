use Rattle.std.proofs.Common.{List, inl, inr}
use Rattle.std.proofs.lemmas.Result.{err_from_is_err_and}
use Rattle.c0_syntax.specs.declared.program.Declaration.{Declaration}
use Rattle.c0_rules.specs.FaultPrograms.{NamedAmong, NamedInDefinition}
use Rattle.c0_types_flow.specs.FlowViews.{refused_by, told_of}
use Rattle.c0_types_flow.proofs.Lists.{at_place}
use Rattle.c0_types_flow.proofs.mentioned.Refused.check_declarations.Goals as goal

pub returns-in_err-check_declaration-clause-cause : goal.returns-in_err-check_declaration-clause-cause
returns-in_err-check_declaration-clause-cause c =
    let P : Declaration → Type 0 = λ x. NamedInDefinition c.in_err-check_declaration.field-0.0 (refused_by c.args.self.now) (told_of c.args.self.now) x.kind in
    let Q : List Declaration → Type 0 = NamedAmong c.in_err-check_declaration.field-0.0 (refused_by c.args.self.now) (told_of c.args.self.now) in
    let p = err_from_is_err_and c.from_residual.result c.from_residual.ensures.1 in
    rw (p.1, p.2) (at_place P Q (λ x xs h. inl h) (λ x xs h. inr h) c.args.declarations.now c.loop-declaration.declaration-index c.declaration-item.result c.loop-declaration-test.true c.declaration-item.is c.in_err-check_declaration.ensures.cause)
