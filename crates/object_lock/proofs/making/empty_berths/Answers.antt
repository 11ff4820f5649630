use Rattle.std.proofs.Common.{◌≡◌, ℕ, ◌+◌, ◌<◌, ◌≤◌, List, [], ◌∷◌, ◌++◌, length, length-append, arith, sym, subst, ap}
use Rattle.std.specs.Prelude.{Option, Some}
use mathlib.Core.Option.{some}
use lib.ListN.{get_elem?}
use Rattle.remote_store.specs.declared.berth.Berth.{Berth}
use Rattle.object_lock.specs.Kept.{slot_keeps}
use Rattle.object_lock.proofs.SeatRows.{each_on, keeps_zeros}
use Rattle.object_lock.proofs.making.empty_berths.Goals as goal

pub loop-alloc-preserved : goal.loop-alloc-preserved
loop-alloc-preserved g c =
    let e = c.in_default.ensures.items in let i = c.loop-alloc.invariant in let P = λ (o : ℕ) (b : Option (Berth g.row.S-Cell.Denot)). (n : ℕ) → g.S.RawStore.makes c.args.store.now (n + 3) → slot_keeps g.S.RawStore.fits g.S.RawStore.content n b o [] in
    let t = c.loop-alloc-test.true in let l = c.len.ensures in
    let n = length-append c.loop-alloc.slots.items (Some c.new.result ∷ []) in
    let more : length c.push.new.self.items ≤ c.args.objects = let k : length c.push.new.self.items ≡ length (c.loop-alloc.slots.items ++ Some c.new.result ∷ []) = ap length e in omega arith in (
      more,
      subst (λ (xs : List (Option (Berth g.row.S-Cell.Denot))). (o : ℕ) → o < length xs → (b : Option (Berth g.row.S-Cell.Denot)) × (get_elem? xs o ≡ some b) × P o b) (sym e)
          (each_on P c.loop-alloc.slots.items (Some c.new.result) i.1 (λ n m. keeps_zeros g.S.RawStore.fits g.S.RawStore.content n c.new.result _ (subst (λ (q : g.row.S-Cell.Denot). g.S.RawStore.fits q (n + 3)) (sym c.new.ensures.cell) (c.in_ok-cell.ensures.fits (n + 3) m)) c.new.ensures.version)),
    )
