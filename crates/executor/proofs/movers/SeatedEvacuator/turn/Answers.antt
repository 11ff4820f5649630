use Rattle.std.proofs.Common.{◌≡◌, ap, subst, sym}
use Rattle.object_moves.specs.Ways.{did_of}
use Rattle.evacuator.specs.Rounds.{HasMadeRounds}
use Rattle.evacuator.proofs.Visits.{rounds_and_one}
use Rattle.executor.proofs.movers.SeatedEvacuator.turn.Goals as goal

pub invariant_of-self-2 : goal.invariant_of-self-2
invariant_of-self-2 g c =
    let round = c.round_from-round in
    let before = c.lacks_frames.new.seat in
    let made = subst (λ s. HasMadeRounds g.S.RawStore.reliable c.self.inside.region.now.table.sizes s.view.number (did_of s)) (sym c.if-not-lacks_frames.ensures.same) c.self.invariant.2 in
    let after = rounds_and_one g.S.RawStore.reliable c.self.inside.region.now.table.sizes before.view.number (did_of before) (did_of round.new.seat) round.result made round.ensures.visits round.ensures.sure in (
      round.ensures.table,
      round.ensures.empty,
      subst (λ n. HasMadeRounds g.S.RawStore.reliable c.self.inside.region.now.table.sizes n (did_of round.new.seat)) (sym (ap (λ s. s.view.number) round.ensures.told.same)) after,
    )
