use Rattle.std.proofs.Common.{◌≡◌, ◌+◌, ◌++◌, ◌∷◌, ◌∙◌, suc, ap, sym, arith, length, rules}
use Rattle.std.specs.Vec.Iter.{into_iter_items, into_iter_len}
use Rattle.middle_form.specs.ScopedViews.{scoped_code_of, scoped_sequence_of}
use Rattle.scoped_building.proofs.Rows.{scoped_sequence_is, sequence_is}
use Rattle.scoped_building.specs.Building.{codes, in_order}
use Rattle.guard_hoisting.specs.Hoisted.{moved}
use Rattle.guard_hoisting.proofs.Parts.{put_together, rest_moved}
use Rattle.guard_hoisting.proofs.Sizes.{size_all, size_code, size_of_sequence}
use Rattle.guard_hoisting.proofs.moving.+moving.Goals as goal

pub move_code-loop-part-init : goal.move_code-loop-part-init
move_code-loop-part-init t c =
    let v = c.in-Sequence.all in
    let old = c.args.parts.now.items in
    let all = into_iter_items c.into_iter-part-iterator.result in
    let same : all ≡ v.items = c.into_iter-part-iterator.ensures.into_iter_gives.0 in
    let k : scoped_sequence_of all ≡ scoped_code_of c.args.code = ap scoped_sequence_of same ∙ (sym (sequence_is v) ∙ sym (ap scoped_code_of c.in-Sequence.is)) in
    let large : size_code c.args.code ≡ suc (size_all v.items) = ap size_code c.in-Sequence.is ∙ size_of_sequence v in
    record {
      parts = ap (λ x. codes old ++ moved c.args.ways.now x) k;
      smaller = omega (arith, large, ap size_all same);
      long = search rules;
    }

pub move_code-loop-part-preserved : goal.move_code-loop-part-preserved
move_code-loop-part-preserved t c =
    let before = c.loop-part in
    let new = c.move_code.new in
    let x = c.in-Some.part in
    let all = into_iter_items before.part-iterator in
    let rest = into_iter_items c.next.new.self in
    let steps : all ≡ x ∷ rest = c.in-Some.ensures.steps.0 in
    let shorter : into_iter_len c.next.new.self + 1 ≡ into_iter_len before.part-iterator = c.in-Some.ensures.steps.1 in
    let size : size_all all ≡ suc (size_code x + size_all rest) = ap size_all steps in
    let count : length all ≡ suc (length rest) = ap length steps in
    record {
      parts = rest_moved c.args.ways.now before.parts.items new.parts.items x all rest _ steps c.in_ok-move_code-in-Sequence.ensures before.invariant.parts;
      smaller = omega (arith, size, before.invariant.smaller);
      long = omega (arith, count, shorter, before.invariant.long);
    }

pub move_whole-returns : goal.move_whole-returns
move_whole-returns t c =
    ap scoped_code_of c.in_ok-new.ensures.ok ∙ (scoped_sequence_is c.move_code.new.parts
    ∙ (put_together c.new-parts.result.items c.move_code.new.parts.items (moved c.args.ways.now (scoped_code_of c.into_inner.result)) c.new-parts.ensures.items c.in_ok-move_code.ensures
    ∙ ap (λ x. in_order (moved c.args.ways.now (scoped_code_of x))) c.into_inner.ensures))
