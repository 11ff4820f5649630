use Rattle.std.proofs.Common.{rules, arith, ◌≡◌, ◌∙◌, ◌++◌, ◌∷◌, [], List, Option, None, ap, length, length-append, refl, subst, sym}
use Rattle.std.proofs.lemmas.List.Elements.{All-push}
use Rattle.std.specs.List.{All}
use Rattle.executor.specs.Ends.{DoneView}
use Rattle.executor.proofs.Composed.{unfiled}
use Rattle.executor.proofs.filing.no_ends.Goals as goal

pub loop-place-preserved : goal.loop-place-preserved
loop-place-preserved g c =
    let Place = Option (DoneView g.row.S.Denot g.row.S-Cell.Denot) in
    let before = c.loop-place.invariant in
    let places = c.loop-place.places.items in
    let items : c.push.new.self.items ≡ places ++ None ∷ [] = search rules in
    let long = ap length items ∙ length-append places (None ∷ []) in
    let count = before.0 in (
      omega arith,
      subst (All (λ (p : Place). p ≡ None)) (sym items) (All-push (λ (p : Place). p ≡ None) places None before.1 refl),
    )

pub returns : goal.returns
returns g c = unfiled g.S.RawStore.honest g.S.RawStore.reliable c.args.queue.now.roster c.loop-place.places.items (search rules) c.loop-place.invariant.1
