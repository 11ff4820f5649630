use Rattle.std.proofs.Common.{◌∙◌, ◌<◌, ℕ, List, ap, arith, get_or, length, sym, take}
use Rattle.std.proofs.lemmas.List.{take_more}
use Rattle.prefetch_pass.specs.Raised.{is_among}
use Rattle.prefetch_pass.proofs.Entering.{just_more}
use Rattle.prefetch_pass.proofs.members.set_of.Goals as goal

pub loop-place-preserved : goal.loop-place-preserved
loop-place-preserved c = λ r.
    let all = c.args.registers.now in
    let i = c.loop-place.place in
    let inside : i < length all = omega arith in
    just_more c.loop-place.set c.insert.new.self (take i all) (get_or all i 0) c.loop-place.invariant c.in_ok-insert.ensures.updates.0 r
    ∙ ap (λ (l : List ℕ). is_among l r) (sym (take_more all i 0 inside))
