use Rattle.std.proofs.Common.{inl, inr, refl}
use Rattle.std.proofs.lemmas.Result.{err_from_is_err_and}
use Rattle.c0_types.specs.DeclareViews.{elaboration_of}
use Rattle.c0_types.proofs.DeclarationSteps.{left_more, left_none, left_told}
use Rattle.c0_types.proofs.TextSteps.{declaration_at}
use Rattle.c0_types.proofs.declare.Elaborated.declarations.Goals as goal

pub declaration-requires : goal.declaration-requires
declaration-requires c = declaration_at c.args.texts.now c.args.declarations.now c.loop-declaration.declaration-index c.declaration-item.result c.loop-declaration-test.true c.declaration-item.is c.requires

pub returns-in_err-declaration-clause-answers : goal.returns-in_err-declaration-clause-answers
returns-in_err-declaration-clause-answers c =
    let first = elaboration_of c.args.texts.now c.args.self.now in
    let now = elaboration_of c.args.texts.now c.loop-declaration.self in
    let p = err_from_is_err_and c.from_residual.result c.from_residual.ensures.1 in
    rw (p.1, p.2) (elim c.in_err-declaration.ensures.answers [
      | inl o ↦ inl o
      | inr o ↦ inr (left_none first now c.loop-declaration.declaration-index c.args.declarations.now c.loop-declaration.invariant c.declaration-item.result c.loop-declaration-test.true c.declaration-item.is o)
    ])

pub returns-in_err-declaration-clause-cause : goal.returns-in_err-declaration-clause-cause
returns-in_err-declaration-clause-cause c =
    let first = elaboration_of c.args.texts.now c.args.self.now in
    let now = elaboration_of c.args.texts.now c.loop-declaration.self in
    let p = err_from_is_err_and c.from_residual.result c.from_residual.ensures.1 in
    rw (p.1, p.2) (elim c.in_err-declaration.ensures.cause [
      | inl o ↦ inl o
      | inr o ↦ inr (left_told first now c.loop-declaration.declaration-index c.args.declarations.now c.loop-declaration.invariant c.declaration-item.result c.loop-declaration-test.true c.declaration-item.is _ o)
    ])

pub loop-declaration-init : goal.loop-declaration-init
loop-declaration-init c = record { answers = refl; cause = λ f h. h }

pub loop-declaration-preserved : goal.loop-declaration-preserved
loop-declaration-preserved c =
    let first = elaboration_of c.args.texts.now c.args.self.now in
    let now = elaboration_of c.args.texts.now c.loop-declaration.self in
    left_more first now c.loop-declaration.declaration-index c.args.declarations.now c.loop-declaration.invariant c.declaration-item.result c.loop-declaration-test.true c.declaration-item.is (elaboration_of c.args.texts.now c.declaration.new.self) c.in_ok-declaration.ensures.answers
