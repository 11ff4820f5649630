-- What a fetcher leaves of its seat, call after call.
use Rattle.std.proofs.Common.{◌≡◌, ℕ, zero, suc, Bool, true, false, List, [], ◌∷◌, ◌++◌, ap, ap₂, cond, ne_eqb, sym, refl, ◌∙◌, subst}
use Rattle.std.specs.Prelude.{Option, None}
use Rattle.fetcher.specs.Serving.{BringsIn, FailsToGet, FindsNone}
use Rattle.object_lock.specs.declared.answers.Begin.TheVariants as B
use Rattle.object_lock.specs.Plays.{IsUnheld, Steps}
use Rattle.object_lock.specs.SeatViews.{SeatView}
use Rattle.object_lock.specs.Seats.{View, frame_word, with_hand}
use Rattle.object_lock.specs.Logs.{Adds, AddsOne, Deed, deed}
use Rattle.object_lock.specs.Telling.{tried, tried_at}
use Rattle.object_moves.specs.Deeds.{BringsLogged, BringsWith, begins, claims}
use Rattle.object_moves.specs.Moving.{Arrived, GivenUp, hand_arrived}
use Rattle.object_moves.specs.Taken.{Refused}
use Rattle.pointer_word.specs.Asked.{HasNothing}
use Rattle.pointer_word.specs.Calls.{Begins, Call, Claims, Retreats}
use Rattle.pointer_word.specs.Hands.{Note, bringing, claiming, retreating, unclaiming}
use Rattle.pointer_word.specs.Words.{Place, Away, Coming, Here, Leaving}
use Rattle.remote_store.specs.declared.berth.Berth.{Berth}

-- an object that is begun has the count that was given
taken_at : (n : ℕ) (p : Place) → B.Taken ≡ tried_at 0 n p → n ≡ 0
taken_at zero p e = refl
taken_at (suc n) Away e = absurd (let busy : B.Taken ≡ B.Busy = e ∙ ap (λ (b : Bool). cond b B.Taken B.Busy) (ne_eqb (suc n) 0 (λ d. cc)) in cc)
taken_at (suc n) (Coming m) e = absurd (cc)
taken_at (suc n) (Here f k) e = absurd (cc)
taken_at (suc n) (Leaving f m k) e = absurd (cc)

-- an object that was begun without a count has no hold of the seat's
pub unheld : (honest : Type 0) (call : Call) (v w : View) (o : ℕ) → Steps honest call v w (λ x. B.Taken ≡ tried 0 (x.word o)) → IsUnheld v o
unheld honest call v w o h own =
    ap (λ (n : Note). n.count) (h.1.knew.1 o own) ∙ (sym (h.1.sound.owner o).counts ∙ taken_at (h.0.word o).count (h.0.word o).place h.3)

module _ {W C : Type 0} (s a b t : SeatView W C) (o : ℕ) (berth : Option (Berth C)) (ws : List ℕ) where
  abbrev Begun : Type 0
  Begun = a ≡ record s { view = with_hand s.view (bringing s.view.hand o ws); brought = berth; log = a.log }

  -- it began the object with no hold
  abbrev BegunLogged : Type 0
  BegunLogged = Adds s.log a.log o (Begins s.view.number o 0 false) (λ n. n ≡ 0)

  begun_log : BegunLogged → a.log ≡ s.log ++ begins s.view.number o 0 false ∷ []
  begun_log l = l.1 ∙ ap (λ (n : ℕ). s.log ++ deed o n (Begins s.view.number o 0 false) ∷ []) l.2

  pub finds_none : Begun → BegunLogged → b ≡ a → t ≡ record b { view = with_hand b.view (retreating b.view.hand); brought = None; log = t.log } → AddsOne b.log t.log o (Retreats b.view.number o) → FindsNone o s t
  finds_none begun logged none back gone =
      let after : SeatView W C → SeatView W C = λ x. record x { view = with_hand x.view (retreating x.view.hand); brought = None; log = t.log } in
      let same : b.log ≡ s.log ++ begins s.view.number o 0 false ∷ [] = ap (λ (x : SeatView W C). x.log) none ∙ begun_log logged in
      let number : b.view.number ≡ s.view.number = ap (λ (x : SeatView W C). x.view.number) (none ∙ begun) in
      (ws, back ∙ ap after (none ∙ begun), subst (λ (q : List Deed × ℕ). AddsOne q.0 t.log o (Retreats q.1 o)) (λ i. (same i, number i)) gone)

  claimed : (f : ℕ) → SeatView W C → SeatView W C
  claimed f x = record x { view = with_hand x.view (claiming x.view.hand f); log = b.log }

  is_claimed : (f : ℕ) → Begun → b ≡ record a { view = with_hand a.view (claiming a.view.hand f); log = b.log } → b ≡ claimed f (record s { view = with_hand s.view (bringing s.view.hand o ws); brought = berth; log = a.log })
  unfolding claimed
  is_claimed f begun claims = claims ∙ ap (claimed f) begun

  -- it claimed the frame f for it
  pub claim_log : (f : ℕ) → Begun → BegunLogged → Adds a.log b.log (frame_word s.view.sizes f) (Claims a.view.number o f) (λ n. n ≡ 0) → b.log ≡ (s.log ++ begins s.view.number o 0 false ∷ []) ++ claims s.view.sizes s.view.number o f ∷ []
  claim_log f begun logged l =
      let number : a.view.number ≡ s.view.number = ap (λ (x : SeatView W C). x.view.number) begun in
      l.1 ∙ ap₂ (λ (n m : ℕ). a.log ++ deed (frame_word s.view.sizes f) n (Claims m o f) ∷ []) l.2 number ∙ ap (λ (ds : List Deed). ds ++ claims s.view.sizes s.view.number o f ∷ []) (begun_log logged)

  pub brings_in : (honest : Type 0) (promised : List ℕ) (f : ℕ) → Begun → BegunLogged → b ≡ record a { view = with_hand a.view (claiming a.view.hand f); log = b.log } → Adds a.log b.log (frame_word s.view.sizes f) (Claims a.view.number o f) (λ n. n ≡ 0)
      → IsUnheld s.view o → Arrived o f b t → t.refusals ≡ b.refusals → (IsUnheld b.view o → BringsLogged honest s.view.sizes b.view.number o f false promised true b.log t.log) → BringsIn o s t
  unfolding claimed
  brings_in honest promised f begun logged claims claim unheld arrived same brought =
      let after : SeatView W C → SeatView W C = λ x. record x { view = with_hand x.view (hand_arrived x.view.hand t.view.hand.filled); brought = None; store = t.store; refusals = t.refusals; log = t.log } in
      let both = is_claimed f begun claims in
      let free : IsUnheld b.view o = subst (λ (x : SeatView W C). IsUnheld x.view o) (sym both) unheld in
      let number : b.view.number ≡ s.view.number = ap (λ (x : SeatView W C). x.view.number) both in
      let l = brought free in (
        f,
        ws,
        t.view.hand.filled,
        arrived.1 free ∙ ap after both,
        same ∙ ap (λ (x : SeatView W C). x.refusals) both,
        (l.0, subst (λ (q : List Deed × ℕ). BringsWith s.view.sizes q.1 o f false l.0 true q.0 t.log) (λ i. (claim_log f begun logged claim i, number i)) l.2),
      )

  -- the object and the frame were given up
  pub fails_to_get : (honest reliable : Type 0) (promised : List ℕ) (f : ℕ) → Begun → BegunLogged → b ≡ record a { view = with_hand a.view (claiming a.view.hand f); log = b.log } → Adds a.log b.log (frame_word s.view.sizes f) (Claims a.view.number o f) (λ n. n ≡ 0)
      → IsUnheld s.view o → GivenUp reliable b t → (IsUnheld b.view o → BringsLogged honest s.view.sizes b.view.number o f false promised false b.log t.log) → FailsToGet reliable o s t
  unfolding claimed
  fails_to_get honest reliable promised f begun logged claims claim unheld given back =
      let after : SeatView W C → SeatView W C = λ x. record x { view = with_hand x.view (retreating (unclaiming x.view.hand)); brought = None; store = t.store; refusals = t.refusals; log = t.log } in
      let both = is_claimed f begun claims in
      let free : IsUnheld b.view o = subst (λ (x : SeatView W C). IsUnheld x.view o) (sym both) unheld in
      let number : b.view.number ≡ s.view.number = ap (λ (x : SeatView W C). x.view.number) both in
      let l = back free in (
        f,
        ws,
        given.0 ∙ ap after both,
        subst (λ (x : SeatView W C). Refused reliable x.refusals t.refusals) both given.1,
        subst (λ (q : List Deed × ℕ). BringsWith s.view.sizes q.1 o f false l.0 false q.0 t.log) (λ i. (claim_log f begun logged claim i, number i)) l.2,
      )

-- what is brought in leaves nothing in hand
pub emptied : {W C : Type 0} (o : ℕ) (s t : SeatView W C) → HasNothing s.view.hand → BringsIn o s t → HasNothing t.view.hand
emptied {W} {C} o s t empty h = subst (λ (x : SeatView W C). HasNothing x.view.hand) (sym h.3) (refl, empty.1, (refl, empty.2.1))
