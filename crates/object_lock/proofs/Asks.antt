-- What a seat knows is what its calls ask of their caller.
use Rattle.std.proofs.Common.{◌≡◌, ℕ, zero, suc, ◌<◌, true, false, not, refl, sym, ap, ◌∙◌, subst, arith, ne_eqb}
use Rattle.std.specs.Prelude.{Some, None, ◌==◌}
use Rattle.pointer_word.specs.Hands.{Hand, Note}
use Rattle.pointer_word.specs.Machine.{State as Machine}
use Rattle.pointer_word.specs.Calls.{Opens, Closes, Clears, Stores, Begins, Claims, Fills, Arrives, Unclaims, Retreats, Marks, Copies, Commits, Aborts, Leaves, Releases, May}
use Rattle.pointer_word.specs.Asked.{HasNoFrame, HasNothing}
use Rattle.object_lock.specs.Seats.{View, Owns, note, Shows}
use Rattle.object_lock.specs.Plays.{IsAsked}
use Rattle.object_lock.specs.Seating.{IsMovingOut}

module _ (honest : Type 0) (v : View) (x : Machine) (knew : Shows v x) where
  pub asks_open : (o : ℕ) → Owns v o → (note v o).count < 4 → IsAsked honest (Opens o) v x
  asks_open o own few owner mine = (mine o own, subst (λ (y : Note). y.count < 4) (knew.1 o own) few)

  pub asks_close : (o : ℕ) → Owns v o → 0 < (note v o).count → IsAsked honest (Closes o) v x
  asks_close o own held owner mine = (mine o own, subst (λ (y : Note). 0 < y.count) (knew.1 o own) held)

  pub asks_clear : (o : ℕ) → Owns v o → 0 < (note v o).count → IsAsked honest (Clears o) v x
  asks_clear o own held owner mine = (mine o own, subst (λ (y : Note). 0 < y.count) (knew.1 o own) held)

  pub asks_store : (o f i a : ℕ) → Owns v o → (note v o).frame ≡ Some f → (note v o).writing ≡ true → i < v.sizes.cells → IsAsked honest (Stores o f i a) v x
  asks_store o f i a own at writes low owner mine = (mine o own, low, subst (λ (y : Note). (y.frame ≡ Some f) × (y.writing ≡ true)) (knew.1 o own) (at, writes))

  pub asks_claim : (o f : ℕ) → v.hand.bringing ≡ Some o → v.hand.leaving ≡ None → HasNoFrame v.hand → IsAsked honest (Claims v.number o f) v x
  asks_claim o f brings empty none owner mine = let p = subst (λ (h : Hand). (h.bringing ≡ Some o) × (h.leaving ≡ None) × HasNoFrame h) knew.0 (brings, empty, none) in (refl, p.0, p.1, p.2)

  pub asks_fill : (f i a : ℕ) → i < v.sizes.cells → v.hand.claimed ≡ Some f → IsAsked honest (Fills v.number f i a) v x
  asks_fill f i a low claimed owner mine = (refl, low, subst (λ (h : Hand). h.claimed ≡ Some f) knew.0 claimed)

  pub asks_arrive : (o f : ℕ) → Owns v o → May honest v.sizes.cells x (Arrives v.number o f true) → IsAsked honest (Arrives v.number o f true) v x
  asks_arrive o f own may owner mine = (refl, (λ _. mine o own), may)

  pub asks_try : (o c : ℕ) → (0 < c → Owns v o × (c ≡ (note v o).count)) → HasNothing v.hand → IsAsked honest (Begins v.number o c (not (c == 0))) v x
  asks_try o zero held nothing owner mine = (refl, subst HasNothing knew.0 nothing, (λ e. cc), (λ _. refl))
  asks_try o (suc c) held nothing owner mine =
      let h = held (omega arith) in let some : not (suc c == 0) ≡ true = ap not (ne_eqb (suc c) 0 (λ e. cc)) in
      (refl, subst HasNothing knew.0 nothing, (λ _. let p = subst (λ (y : Note). (0 < y.count) × (suc c ≡ y.count)) (knew.1 o h.0) ((let e = h.1 in omega arith), h.1) in (mine o h.0, p.0, p.1)), (λ e. absurd (let d : true ≡ false = sym some ∙ e in cc)))

  pub asks_bring : (o f : ℕ) → May honest v.sizes.cells x (Arrives v.number o f false) → IsAsked honest (Arrives v.number o f false) v x
  asks_bring o f may owner mine = (refl, (λ e. cc), may)

  pub asks_unclaim : (f : ℕ) → May honest v.sizes.cells x (Unclaims v.number f) → IsAsked honest (Unclaims v.number f) v x
  asks_unclaim f may owner mine = (refl, may)

  pub asks_retreat : (o : ℕ) → v.hand.claimed ≡ None → May honest v.sizes.cells x (Retreats v.number o) → IsAsked honest (Retreats v.number o) v x
  asks_retreat o none may owner mine = (refl, subst (λ (h : Hand). h.claimed ≡ None) knew.0 none, may)

  pub asks_mark : (o f : ℕ) → v.hand.leaving ≡ None → HasNoFrame v.hand → ((p : ℕ) → v.hand.bringing ≡ Some p → Owns v p) → IsAsked honest (Marks v.number o f) v x
  asks_mark o f empty none only owner mine = (refl, subst (λ (h : Hand). (h.leaving ≡ None) × HasNoFrame h × ((p : ℕ) → h.bringing ≡ Some p → owner p ≡ v.number)) knew.0 (empty, none, λ p e. mine p (only p e)))

  pub asks_leave : (o f : ℕ) → v.hand.leaving ≡ None → HasNoFrame v.hand → ((p : ℕ) → v.hand.bringing ≡ Some p → Owns v p) → IsAsked honest (Leaves v.number o f) v x
  asks_leave o f empty none only owner mine = (refl, subst (λ (h : Hand). (h.leaving ≡ None) × HasNoFrame h × ((p : ℕ) → h.bringing ≡ Some p → owner p ≡ v.number)) knew.0 (empty, none, λ p e. mine p (only p e)))

  pub asks_copy : (f i : ℕ) → i < v.sizes.cells → IsMovingOut v.hand f → IsAsked honest (Copies v.number f i) v x
  asks_copy f i low moving owner mine = (refl, low, subst (λ (h : Hand). IsMovingOut h f) knew.0 moving)

  pub asks_commit : (o f : ℕ) → v.hand.claimed ≡ None → May honest v.sizes.cells x (Commits v.number o f) → IsAsked honest (Commits v.number o f) v x
  asks_commit o f none may owner mine = (refl, subst (λ (h : Hand). h.claimed ≡ None) knew.0 none, may)

  pub asks_abort : (o f : ℕ) → May honest v.sizes.cells x (Aborts v.number o f) → IsAsked honest (Aborts v.number o f) v x
  asks_abort o f may owner mine = (refl, may)

  pub asks_release : (f : ℕ) → May honest v.sizes.cells x (Releases v.number f) → IsAsked honest (Releases v.number f) v x
  asks_release f may owner mine = (refl, may)
