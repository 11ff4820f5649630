use Rattle.std.proofs.Common.{◌∙◌, ◌<◌, List, None, ap, arith, get_or, length, map, nat_eq, sym, take}
use Rattle.std.specs.HashMap.{get}
use Rattle.std.proofs.lemmas.List.{take_more}
use Rattle.prefetch_pass.specs.declared.changes.Assignment.{Assignment}
use Rattle.prefetch_pass.specs.Gathered.{adds_to, changes_among, common, is_marked}
use Rattle.prefetch_pass.proofs.Gathering.{sums_more}
use Rattle.prefetch_pass.proofs.tables.sums_among.Goals as goal

pub loop-place-preserved : goal.loop-place-preserved
loop-place-preserved c = λ r.
    let all = c.args.assignments.now in
    let i = c.loop-place.place in
    let none : Assignment = record { to = 0; change = None } in
    let a = get_or all i none in
    let inside : i < length all = omega arith in
    let step = is_marked c.args.steps.now in
    sums_more step (get nat_eq c.loop-place.sums) (get nat_eq c.note_sum.new.sums) c.summand.result (take i all) a c.loop-place.invariant c.in_ok-note_sum.ensures.0 c.summand.ensures r
    ∙ ap (λ (l : List Assignment). common (map (adds_to step) (changes_among r l))) (sym (take_more all i none inside))
