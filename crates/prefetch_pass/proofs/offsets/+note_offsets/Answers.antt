use Rattle.std.proofs.Common.{◌≡◌, ◌∙◌, ap, false, refl, sym}
use Rattle.middle_form.specs.Scoped as s
use Rattle.middle_form.specs.ScopedViews.{scoped_code_of, scoped_sequence_of}
use Rattle.middle_form.specs.declared.scoped.ScopedCode.{ScopedCode}
use Rattle.scoped_building.proofs.Rows.{sequence_is}
use Rattle.prefetch_pass.specs.Gathered.{has_checks}
use Rattle.prefetch_pass.specs.Raised.{offsets_with}
use Rattle.prefetch_pass.proofs.Entering.{loop_offsets, no_offsets}
use Rattle.prefetch_pass.proofs.offsets.+note_offsets.Goals as goal

pub loop-part-init : goal.loop-part-init
loop-part-init t c =
    let all = c.args.offsets.now.items in
    (refl, λ rs h. ap (λ l. offsets_with (scoped_sequence_of l) rs all) c.deref-part-items.ensures.value ∙ sym (ap (λ x. offsets_with (scoped_code_of x) rs all) c.in-Sequence.is ∙ ap (λ x. offsets_with x rs all) (sequence_is c.in-Sequence.parts)))

pub returns-in_ok-note_offsets-in-Loop-2-clause-offsets : goal.returns-in_ok-note_offsets-in-Loop-2-clause-offsets
returns-in_ok-note_offsets-in-Loop-2-clause-offsets t c = λ rs h.
    let all = c.args.offsets.now.items in
    let first = c.note_offsets-in-Loop.new.offsets.items in
    let test = c.deref-in-Loop.result.now in
    let body = c.deref-in-Loop-2.result.now in
    let test_again : c.deref-in-Loop-3.result.now ≡ test = c.deref-in-Loop-3.ensures ∙ sym c.deref-in-Loop.ensures in
    let body_again : c.deref-in-Loop-4.result.now ≡ body = c.deref-in-Loop-4.ensures ∙ sym c.deref-in-Loop-2.ensures in
    loop_offsets c.args.loops.now.items c.push.new.self.items c.note_offsets-in-Loop.new.loops.items c.in_ok-raises_in-in-Loop.field-0 (scoped_code_of test) (scoped_code_of body)
    rs all first c.note_offsets-in-Loop-2.new.offsets.items c.in_ok-raises_in-in-Loop.ensures h c.in_ok-push-in-Loop.ensures.items c.in_ok-note_offsets-in-Loop.ensures.loops
    (λ qs k. c.in_ok-note_offsets-in-Loop.ensures.offsets qs k ∙ ap (λ (x : ScopedCode). offsets_with (scoped_code_of x) qs all) test_again)
    (λ qs k. c.in_ok-note_offsets-in-Loop-2.ensures.offsets qs k ∙ ap (λ (x : ScopedCode). offsets_with (scoped_code_of x) qs first) body_again)
    ∙ (ap (λ (x : ScopedCode). offsets_with (s.Loop (scoped_code_of x) c.in-Loop.condition (scoped_code_of body)) rs all) c.deref-in-Loop.ensures
    ∙ (ap (λ (x : ScopedCode). offsets_with (s.Loop (scoped_code_of c.in-Loop.test.value) c.in-Loop.condition (scoped_code_of x)) rs all) c.deref-in-Loop-2.ensures
    ∙ sym (ap (λ (x : ScopedCode). offsets_with (scoped_code_of x) rs all) c.in-Loop.is)))

pub returns-then-not-has_checks-clause-offsets : goal.returns-then-not-has_checks-clause-offsets
returns-then-not-has_checks-clause-offsets t c = λ rs h.
    let none : has_checks (scoped_code_of c.args.code.now) ≡ false = sym c.has_checks.ensures ∙ c.if-not-has_checks.true in
    sym (no_offsets (scoped_code_of c.args.code.now) rs c.args.offsets.now.items none)
