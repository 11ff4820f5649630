use Rattle.std.proofs.Common.{◌≡◌, ◌∙◌, [], ◌∷◌, ◌++◌, List, Option, ℕ, ap, arith, get_or, length, nat_eq, subst, sym, unwrap_or}
use Rattle.std.specs.Prelude.{slice_set}
use Rattle.std.specs.HashMap.{get}
use Rattle.guard_hoisting.specs.declared.ways.Use.{Use}
use Rattle.guard_hoisting.specs.Building.{ArePlaces, known_place, place_through}
use Rattle.guard_hoisting.specs.Ways.{with_use}
use Rattle.guard_hoisting.proofs.Places.{found, missing, places_again, places_new}
use Rattle.guard_hoisting.proofs.Ranks.{used_new, used_there}
use Rattle.guard_hoisting.proofs.ways.note.Goals as goal

pub returns-then-place-len : goal.returns-then-place-len
returns-then-place-len c = λ h.
    let r = c.args.register in
    let us = c.args.uses.now.items in
    let u = c.index.result.now in
    let e : c.place_of-place.result ≡ unwrap_or (known_place (place_through r us) (length us)) (length us) =
    c.place_of-place.ensures
    ∙ (ap (λ (l : List Use). unwrap_or (get nat_eq c.args.places.now r) (length l)) c.deref.ensures.value ∙ ap (λ (o : Option ℕ). unwrap_or o (length us)) (h r)) in
    let f = found (place_through r us) (length us) (omega (arith, e, c.if-place-len.true, c.args.uses.now.ok.0)) in
    let at : c.place_of-place.result ≡ place_through r us = e ∙ f.1 in
    let read : get_or us (place_through r us) u ≡ u = ap (λ i. get_or us i u) (sym at) ∙ sym c.index.ensures in
    let same : slice_set us c.place_of-place.result c.used_again.result ≡ with_use r c.args.offset c.args.displacement us =
    ap (λ i. slice_set us i c.used_again.result) at ∙ (ap (slice_set us (place_through r us)) c.used_again.ensures ∙ used_there r c.args.offset c.args.displacement us u f.0 read) in
    (subst (λ (l : List Use). ArePlaces c.args.places.now l) (sym same) (places_again c.args.places.now us r c.args.offset c.args.displacement h f.0), same)

pub returns : goal.returns
returns c = λ h.
    let r = c.args.register in
    let us = c.args.uses.now.items in
    let e : c.place_of-place.result ≡ unwrap_or (known_place (place_through r us) (length us)) (length us) =
    c.place_of-place.ensures
    ∙ (ap (λ (l : List Use). unwrap_or (get nat_eq c.args.places.now r) (length l)) c.deref.ensures.value ∙ ap (λ (o : Option ℕ). unwrap_or o (length us)) (h r)) in
    let f = missing (place_through r us) (length us) (omega (arith, e, c.if-place-len.false, c.args.uses.now.ok.0)) in
    let u : Use = record { way = c.first_way.result; times = 1 } in
    let pushed : c.push.new.self.items ≡ us ++ u ∷ [] = c.in_ok-push.ensures.items in
    let all : ArePlaces c.insert.new.self (us ++ u ∷ []) =
    places_new c.args.places.now c.insert.new.self us r c.args.offset c.args.displacement c.place_of-place.result u c.first_way.ensures (e ∙ f.1) c.in_ok-insert.ensures.updates.0 h f.0 in
    (subst (λ (l : List Use). ArePlaces c.insert.new.self l) (sym pushed) all, pushed ∙ used_new r c.args.offset c.args.displacement us c.first_way.result c.first_way.ensures f.0)
