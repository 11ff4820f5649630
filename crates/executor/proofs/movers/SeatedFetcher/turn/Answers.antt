use Rattle.std.proofs.Common.{◌≡◌, ◌∙◌, ap, subst, sym}
use Rattle.object_moves.specs.Ways.{did_of}
use Rattle.fetcher.specs.Serving.{HasServed}
use Rattle.fetcher.proofs.Services.{same_seat, served_one}
use Rattle.executor.proofs.movers.SeatedFetcher.turn.Goals as goal

pub invariant_of-self : goal.invariant_of-self
invariant_of-self g c =
    let served = c.serve_one-served in
    let before = c.self.invariant in
    let s = c.self.inside.seat in let t = served.new.seat in
    let done = served_one g.S.RawStore.reliable c.self.inside.region.now.objects s t served.result served.ensures.told (subst (λ z. HasServed g.S.RawStore.reliable z s.view.number (did_of s)) (sym before.0.1) before.4) in (
      served.ensures.seat,
      served.ensures.hands,
      served.ensures.pass ∙ before.2,
      before.3,
      subst (λ z. HasServed g.S.RawStore.reliable z t.view.number (did_of t)) before.0.1 (subst (λ n. HasServed g.S.RawStore.reliable s.view.sizes n (did_of t)) (sym (same_seat g.S.RawStore.reliable c.self.inside.region.now.objects s t served.result served.ensures.told)) done),
    )
