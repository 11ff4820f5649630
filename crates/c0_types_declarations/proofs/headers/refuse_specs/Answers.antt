use Rattle.std.proofs.Common.{◌≡◌, inr, refl, ap, sym, ◌∙◌, drop, Some}
use Rattle.std.specs.Prelude.{slice_get}
use Rattle.c0_types_declarations.proofs.HeaderLists.{head_is, none_is, specs_here, specs_more, specs_told}
use Rattle.c0_types_declarations.proofs.headers.refuse_specs.Goals as goal

pub returns-in-Some-clause-none : goal.returns-in-Some-clause-none
returns-in-Some-clause-none c =
    let first : slice_get c.annotation-item.result.specs.items 0 ≡ Some c.in-Some.spec.now = ap (λ z. slice_get z 0) (sym c.deref.ensures.value) ∙ sym c.in-Some.ensures.value in
    let whole = head_is c.annotation-item.result.specs.items c.in-Some.spec.now first in
    inr (specs_here c.loop-annotation.annotation-index c.args.annotations.now c.loop-annotation.invariant c.annotation-item.result c.loop-annotation-test.true c.annotation-item.is c.in-Some.spec.now (drop 1 c.annotation-item.result.specs.items) whole)

pub returns-in-Some-clause-cause : goal.returns-in-Some-clause-cause
returns-in-Some-clause-cause c =
    let first : slice_get c.annotation-item.result.specs.items 0 ≡ Some c.in-Some.spec.now = ap (λ z. slice_get z 0) (sym c.deref.ensures.value) ∙ sym c.in-Some.ensures.value in
    let whole = head_is c.annotation-item.result.specs.items c.in-Some.spec.now first in
    specs_told c.loop-annotation.annotation-index c.args.annotations.now c.loop-annotation.invariant c.annotation-item.result c.loop-annotation-test.true c.annotation-item.is _ c.in-Some.spec.now (drop 1 c.annotation-item.result.specs.items) whole (refl, refl)

pub loop-annotation-init : goal.loop-annotation-init
loop-annotation-init c = record { answers = refl; cause = λ f h. h }

pub loop-annotation-preserved : goal.loop-annotation-preserved
loop-annotation-preserved c =
    let none = none_is c.annotation-item.result.specs.items (c.in_default.ensures.value ∙ ap (λ z. slice_get z 0) c.deref.ensures.value) in
    specs_more c.loop-annotation.annotation-index c.args.annotations.now c.loop-annotation.invariant c.annotation-item.result c.loop-annotation-test.true c.annotation-item.is none
