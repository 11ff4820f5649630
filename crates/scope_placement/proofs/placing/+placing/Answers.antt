use Rattle.std.proofs.Common.{◌≡◌, ◌≤◌, ◌+◌, ◌++◌, ◌∷◌, ◌∙◌, suc, max, ap, sym, arith, length, rules}
use Rattle.std.specs.Vec.Iter.{into_iter_items, into_iter_len}
use Rattle.middle_form.specs.ScopedViews.{scoped_code_of}
use Rattle.middle_form.specs.Views.{code_of, sequence_of}
use Rattle.scoped_building.proofs.Rows.{scoped_sequence_is}
use Rattle.scoped_building.specs.Building.{codes}
use Rattle.scope_placement.specs.Placed.{most_open, open_behind, placed}
use Rattle.scope_placement.proofs.Disciplined.{few_behind}
use Rattle.scope_placement.proofs.Rows.{rest_most, rest_open, rest_parts, sequence_is, whole_is}
use Rattle.scope_placement.proofs.Sizes.{size_all, size_code, size_of_sequence}
use Rattle.scope_placement.proofs.placing.+placing.Goals as goal

pub place_code-loop-part-init : goal.place_code-loop-part-init
place_code-loop-part-init t c =
    let v = c.in-Sequence.all in
    let rs = c.args.run.now.registers.items in
    let old = c.args.parts.now.items in
    let all = into_iter_items c.into_iter-part-iterator.result in
    let same : all ≡ v.items = c.into_iter-part-iterator.ensures.into_iter_gives.0 in
    let k : sequence_of all ≡ code_of c.args.code = ap sequence_of same ∙ (sym (sequence_is v) ∙ sym (ap code_of c.in-Sequence.is)) in
    let large : size_code c.args.code ≡ suc (size_all v.items) = ap size_code c.in-Sequence.is ∙ size_of_sequence v in
    record {
      parts = ap (λ x. codes old ++ placed x rs) k;
      registers = ap (λ x. open_behind x rs) k;
      most = ap (λ x. max c.args.run.now.most (most_open x rs)) k;
      few = c.requires;
      smaller = omega (arith, large, ap size_all same);
      long = search rules;
    }

pub place_code-loop-part-preserved : goal.place_code-loop-part-preserved
place_code-loop-part-preserved t c =
    let before = c.loop-part in
    let new = c.place_code.new in
    let x = c.in-Some.part in
    let all = into_iter_items before.part-iterator in
    let rest = into_iter_items c.next.new.self in
    let rs = before.run.registers.items in
    let steps : all ≡ x ∷ rest = c.in-Some.ensures.steps.0 in
    let shorter : into_iter_len c.next.new.self + 1 ≡ into_iter_len before.part-iterator = c.in-Some.ensures.steps.1 in
    let done = c.in_ok-place_code-in-Sequence.ensures in
    let size : size_all all ≡ suc (size_code x + size_all rest) = ap size_all steps in
    let count : length all ≡ suc (length rest) = ap length steps in
    let open_now : length new.run.registers.items ≡ length (open_behind (code_of x) rs) = ap length done.registers in
    record {
      parts = rest_parts before.parts.items new.parts.items x all rest rs new.run.registers.items _ steps done.parts done.registers before.invariant.parts;
      registers = rest_open x all rest rs new.run.registers.items _ steps done.registers before.invariant.registers;
      most = rest_most before.run.most new.run.most x all rest rs new.run.registers.items _ steps done.most done.registers before.invariant.most;
      few = omega (arith, open_now, few_behind (code_of x) rs before.invariant.few);
      smaller = omega (arith, size, before.invariant.smaller);
      long = omega (arith, count, shorter, before.invariant.long);
    }

pub place_whole-end-requires : goal.place_whole-end-requires
place_whole-end-requires t c =
    let rs = c.args.run.now.registers.items in
    let none : length rs ≡ 0 = ap length c.requires in
    let few : length rs ≤ 4 = omega (arith, none) in
    let now : length c.place_code.new.run.registers.items ≡ length (open_behind (code_of c.into_inner.result) rs) = ap length c.in_ok-place_code.ensures.registers in
    omega (arith, now, few_behind (code_of c.into_inner.result) rs few)

pub place_whole-returns-clause-code : goal.place_whole-returns-clause-code
place_whole-returns-clause-code t c =
    ap scoped_code_of c.in_ok-new.ensures.ok ∙ (scoped_sequence_is c.end.new.parts
    ∙ whole_is c.new-parts.result.items c.place_code.new.parts.items c.end.new.parts.items c.args.run.now.registers.items c.place_code.new.run.registers.items (code_of c.into_inner.result) (code_of c.args.code.value)
    c.new-parts.ensures.items c.requires (ap code_of c.into_inner.ensures) c.in_ok-place_code.ensures.parts c.in_ok-place_code.ensures.registers c.in_ok-end.ensures.parts)
