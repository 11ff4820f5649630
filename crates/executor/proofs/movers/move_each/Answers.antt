use Rattle.std.proofs.Common.{◌≡◌, ◌∙◌, ◌++◌, ap, drop, length, subst, sym, take}
use Rattle.std.proofs.Math.Seq.{take-append_seam}
use Rattle.executor.specs.Ends.{AreSame}
use Rattle.executor.proofs.movers.move_each.Goals as goal

pub returns : goal.returns
returns g c =
    let items = c.args.movers.items in
    let new = c.move_all.new.movers in
    let rest = drop (length new) items in
    let long : c.args.movers.len ≡ length new = sym (c.move_all.ensures.count ∙ c.as_mut_slice.ensures.len) in
    let took = ap (λ n. take n (new ++ rest)) long ∙ take-append_seam new rest in
    subst (AreSame items) (sym took) (subst (λ l. AreSame l new) c.as_mut_slice.ensures.value c.move_all.ensures)
