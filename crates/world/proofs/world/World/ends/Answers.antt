use Rattle.std.proofs.Common.{◌≡◌, ◌+◌, ◌++◌, ◌∷◌, [], ℕ, length, length-append, sym, ap, subst, arith}
use Rattle.world.specs.Reports.{AreEnds, IsEnded}
use Rattle.world.proofs.Replaying.{ends_more}
use Rattle.world.proofs.world.World.ends.Goals as goal

pub loop-program-preserved : goal.loop-program-preserved
loop-program-preserved g c =
    let es = c.loop-program.ends.items in
    let e = c.in_ok-ended.field-0 in
    let many : length es ≡ c.loop-program.program = c.loop-program.invariant.0 in
    let now : c.push.new.self.items ≡ es ++ e ∷ [] = c.in_ok-push.ensures.items in
    let here : c.loop-program.program ≡ 0 + length es = omega (arith, many) in (
      omega (arith, ap length now, length-append es (e ∷ []), many),
      λ z images w is.
          subst (AreEnds w.programs 0) (sym now) (ends_more w.programs 0 es e (c.loop-program.invariant.1 z images w is) (subst (λ (j : ℕ). IsEnded (w.programs j) e) here (c.in_ok-ended.ensures z images w is))),
    )
