use Rattle.std.proofs.Common.{◌≡◌, ◌+◌, ◌++◌, [], ◌∷◌, ◌∙◌, suc, max, ap, sym, arith, length, rules}
use Rattle.std.proofs.lemmas.Grind.{common_steps}
use Rattle.std.specs.Vec.Iter.{into_iter_items, into_iter_len}
use Rattle.middle_form.specs.ScopedViews.{scoped_code_of, scoped_sequence_of}
use Rattle.scoped_building.proofs.Rows.{scoped_sequence_is, sequence_is}
use Rattle.scoped_building.specs.Building.{codes, in_order}
use Rattle.guard_hoisting.specs.Hoisted.{hoisted, most_served, open_behind}
use Rattle.guard_hoisting.proofs.Parts.{put_together, rest_hoisted, rest_most, rest_open, whole_inside}
use Rattle.guard_hoisting.proofs.Sizes.{size_all, size_code, size_of_sequence}
use Rattle.guard_hoisting.proofs.hoisting.+hoisting.Goals as goal

pub hoist_code-loop-part-init : goal.hoist_code-loop-part-init
hoist_code-loop-part-init t c =
    let v = c.in-Sequence.all in
    let ks = c.args.kinds.now in
    let o = c.args.scopes.now.opened.items in
    let old = c.args.parts.now.items in
    let all = into_iter_items c.into_iter-part-iterator.result in
    let same : all ≡ v.items = c.into_iter-part-iterator.ensures.into_iter_gives.0 in
    let k : scoped_sequence_of all ≡ scoped_code_of c.args.code = ap scoped_sequence_of same ∙ (sym (sequence_is v) ∙ sym (ap scoped_code_of c.in-Sequence.is)) in
    let large : size_code c.args.code ≡ suc (size_all v.items) = ap size_code c.in-Sequence.is ∙ size_of_sequence v in
    record {
      parts = ap (λ x. codes old ++ hoisted ks x o) k;
      opened = ap (λ x. open_behind x o) k;
      most = ap (λ x. max c.args.scopes.now.most (most_served ks x o)) k;
      smaller = omega (arith, large, ap size_all same);
      long = search rules;
    }

pub hoist_code-loop-part-preserved : goal.hoist_code-loop-part-preserved
hoist_code-loop-part-preserved t c =
    let before = c.loop-part in
    let new = c.hoist_code.new in
    let ks = c.args.kinds.now in
    let x = c.in-Some.part in
    let all = into_iter_items before.part-iterator in
    let rest = into_iter_items c.next.new.self in
    let o = before.scopes.opened.items in
    let steps : all ≡ x ∷ rest = c.in-Some.ensures.steps.0 in
    let shorter : into_iter_len c.next.new.self + 1 ≡ into_iter_len before.part-iterator = c.in-Some.ensures.steps.1 in
    let done = c.in_ok-hoist_code-in-Sequence.ensures in
    let size : size_all all ≡ suc (size_code x + size_all rest) = ap size_all steps in
    let count : length all ≡ suc (length rest) = ap length steps in
    record {
      parts = rest_hoisted ks before.parts.items new.parts.items x all rest o new.scopes.opened.items _ steps done.parts done.opened before.invariant.parts;
      opened = rest_open x all rest o new.scopes.opened.items _ steps done.opened before.invariant.opened;
      most = rest_most ks before.scopes.most new.scopes.most x all rest o new.scopes.opened.items _ steps done.most done.opened before.invariant.most;
      smaller = omega (arith, size, before.invariant.smaller);
      long = omega (arith, count, shorter, before.invariant.long);
    }

pub hoist_whole-returns-clause-code : goal.hoist_whole-returns-clause-code
hoist_whole-returns-clause-code t c =
    let ks = c.args.kinds.now in
    let o = c.args.scopes.now.opened.items in
    let none : o ≡ [] = grind (arith, common_steps) in
    ap scoped_code_of c.in_ok-new.ensures.ok ∙ (scoped_sequence_is c.hoist_code.new.parts
    ∙ (put_together c.new-parts.result.items c.hoist_code.new.parts.items (hoisted ks (scoped_code_of c.into_inner.result) o) c.new-parts.ensures.items c.in_ok-hoist_code.ensures.parts
    ∙ (ap (λ x. in_order (hoisted ks (scoped_code_of x) o)) c.into_inner.ensures ∙ whole_inside ks (scoped_code_of c.args.code.value) o none)))
