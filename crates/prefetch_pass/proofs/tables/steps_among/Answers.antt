use Rattle.std.proofs.Common.{◌∙◌, ◌<◌, List, None, ap, arith, get_or, length, nat_eq, sym, take}
use Rattle.std.specs.HashMap.{get}
use Rattle.std.proofs.lemmas.List.{take_more}
use Rattle.prefetch_pass.specs.declared.changes.Assignment.{Assignment}
use Rattle.prefetch_pass.specs.Gathered.{changes_among, each_of}
use Rattle.prefetch_pass.specs.Raised.{is_positive}
use Rattle.prefetch_pass.proofs.Gathering.{marks_more}
use Rattle.prefetch_pass.proofs.tables.steps_among.Goals as goal

pub loop-place-preserved : goal.loop-place-preserved
loop-place-preserved c = λ r.
    let all = c.args.assignments.now in
    let i = c.loop-place.place in
    let none : Assignment = record { to = 0; change = None } in
    let a = get_or all i none in
    let inside : i < length all = omega arith in
    marks_more (λ q. is_positive) (get nat_eq c.loop-place.steps) (get nat_eq c.note_mark.new.marks) c.is_positive.result (take i all) a c.loop-place.invariant c.in_ok-note_mark.ensures.0 c.is_positive.ensures r
    ∙ ap (λ (l : List Assignment). each_of is_positive (changes_among r l)) (sym (take_more all i none inside))
