use Rattle.std.proofs.Common.{◌≡◌, [], ◌∷◌, ◌++◌, subst, sym, arith}
use Rattle.world_memory.proofs.Berthed.{far_push, fit_push}
use Rattle.world_memory.proofs.lock.new_berths.Goals as goal

pub loop-alloc-preserved : goal.loop-alloc-preserved
loop-alloc-preserved g c =
    let before = c.loop-alloc.invariant in
    let berths = c.loop-alloc.berths.items in
    let made = c.new.result in
    let pushed : c.push.new.self.items ≡ berths ++ made ∷ [] = c.in_default.ensures.items in (
      omega (arith, c.push.ensures.len),
      (λ n. far_push g.S.RawStore.content n berths c.push.new.self.items made pushed (before.1 n) c.new.ensures.version),
      (λ n makes. fit_push g.S.RawStore.fits n berths c.push.new.self.items made pushed (before.2 n makes) (subst (λ y. g.S.RawStore.fits y n) (sym c.new.ensures.cell) (c.in_ok-cell.ensures.fits n makes))),
    )
