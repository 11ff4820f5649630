use Rattle.std.proofs.Common.{◌∙◌, ◌<◌, List, None, ap, arith, get_or, length, nat_eq, sym, take}
use Rattle.std.specs.HashMap.{get}
use Rattle.std.proofs.lemmas.List.{take_more}
use Rattle.prefetch_pass.specs.declared.changes.Assignment.{Assignment}
use Rattle.prefetch_pass.specs.Gathered.{changes_among, each_of, is_marked, raises}
use Rattle.prefetch_pass.proofs.Gathering.{marks_more}
use Rattle.prefetch_pass.proofs.tables.raises_among.Goals as goal

pub loop-place-preserved : goal.loop-place-preserved
loop-place-preserved c = λ r.
    let all = c.args.assignments.now in
    let i = c.loop-place.place in
    let none : Assignment = record { to = 0; change = None } in
    let a = get_or all i none in
    let inside : i < length all = omega arith in
    let is_raise = raises (is_marked c.args.steps.now) (get nat_eq c.args.sums.now) in
    marks_more is_raise (get nat_eq c.loop-place.raises) (get nat_eq c.note_mark.new.marks) c.is_raise.result (take i all) a c.loop-place.invariant c.in_ok-note_mark.ensures.0 c.is_raise.ensures r
    ∙ ap (λ (l : List Assignment). each_of (is_raise r) (changes_among r l)) (sym (take_more all i none inside))
