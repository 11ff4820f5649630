use Rattle.std.proofs.Common.{◌≡◌, ◌<◌, ◌+◌, ◌-◌, ◌++◌, ◌∙◌, ap, arith, drop, length, rules, sym, vec_len}
use Rattle.middle_form.specs.Scoped as m
use Rattle.middle_form.specs.Scoped.{plain}
use Rattle.middle_form.specs.ScopedViews.{scoped_code_of, scoped_sequence_of}
use Rattle.codegen.specs.Building.{lists}
use Rattle.middle_form.specs.Guarded.{asked_inside, asks as asks_of}
use Rattle.codegen.proofs.Paired.{asks_then, inside_then}
use Rattle.scoped_building.proofs.Rows.{sequence_is}
use Rattle.codegen.proofs.Rows.{sequence_at}
use Rattle.codegen.proofs.asked.+asks.Goals as goal

pub loop-i-preserved : goal.loop-i-preserved
loop-i-preserved t c =
    let i = c.loop-i.i in
    let parts = c.in-Sequence.parts in
    let part = c.index.result.now in
    let rest = scoped_sequence_of (drop i parts.items) in
    let long : vec_len parts ≡ length parts.items = search rules in
    let there : i - 1 < length parts.items = omega arith in
    let again : i - 1 + 1 ≡ i = omega arith in
    let is : scoped_sequence_of (drop (i - 1) parts.items) ≡ m.Then (scoped_code_of part) rest = sequence_at parts.items (i - 1) part there c.index.ensures ∙ ap (λ k. m.Then (scoped_code_of part) (scoped_sequence_of (drop k parts.items))) again in (
      asks_then _ (scoped_code_of part) rest _ _ _ is c.loop-i.invariant.0 c.in_ok-behind-in-Sequence.ensures.checks,
      inside_then _ (scoped_code_of part) rest _ _ _ _ _ is c.loop-i.invariant.0 c.loop-i.invariant.1 c.in_ok-behind-in-Sequence.ensures.added,
    )

pub returns-after-loop-i-clause-checks : goal.returns-after-loop-i-clause-checks
returns-after-loop-i-clause-checks t c =
    let parts = c.in-Sequence.parts in
    let none : c.loop-i.i ≡ 0 = omega arith in
    let whole : scoped_sequence_of (drop c.loop-i.i parts.items) ≡ scoped_code_of c.args.code.now = ap (λ k. scoped_sequence_of (drop k parts.items)) none ∙ sym (sequence_is parts) ∙ sym (ap scoped_code_of c.in-Sequence.is) in
    c.loop-i.invariant.0 ∙ ap (λ k. asks_of (plain k) c.args.behind.items) whole

pub returns-after-loop-i-clause-added : goal.returns-after-loop-i-clause-added
returns-after-loop-i-clause-added t c =
    let parts = c.in-Sequence.parts in
    let none : c.loop-i.i ≡ 0 = omega arith in
    let whole : scoped_sequence_of (drop c.loop-i.i parts.items) ≡ scoped_code_of c.args.code.now = ap (λ k. scoped_sequence_of (drop k parts.items)) none ∙ sym (sequence_is parts) ∙ sym (ap scoped_code_of c.in-Sequence.is) in
    c.loop-i.invariant.1 ∙ ap (λ k. lists c.args.asked.now.items ++ asked_inside (plain k) c.args.behind.items) whole
