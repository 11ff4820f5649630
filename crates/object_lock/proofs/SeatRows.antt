-- How the list of seats grows as a table is made.
use Rattle.std.proofs.Common.{◌≡◌, ℕ, zero, suc, ◌+◌, ◌-◌, ◌*◌, ◌<◌, ◌≤◌, Bool, true, List, [], ◌∷◌, ◌++◌, length, sym, refl, ap, ap₂, ◌∙◌, subst, arith, mul-le-mul_right, suc-mul, inl}
use Rattle.std.specs.Prelude.{Option, None, map}
use Rattle.std.specs.List.{All, range_with_len}
use Rattle.std.proofs.lemmas.List.Elements.{All-append}
use mathlib.Core.Path.{Path}
use mathlib.Core.Option.{some}
use lib.ListN.{get_elem?}
use Rattle.pointer_word.specs.Hands.{empty_handed}
use Rattle.remote_store.specs.Refusing.{no_refusals}
use Rattle.remote_store.specs.declared.berth.Berth.{Berth}
use Rattle.object_lock.specs.Kept.{berth_fits, berth_keeps}
use Rattle.object_lock.specs.Seats.{View, first_part, next_owner, whole_part, next_mover}
use Rattle.object_lock.specs.SeatViews.{TableView, SeatView}
use Rattle.object_lock.specs.Fresh.{IsFresh, IsFreshOwner, IsFreshMover, IsLastOwner, IsLastMover, AreNumbered, EndWithLast}

counts_on : (a n : ℕ) → range_with_len a (suc n) ≡ range_with_len a n ++ (a + n) ∷ []
counts_on a zero = let e : a ≡ a + 0 = omega arith in ap (λ (q : ℕ). q ∷ []) e
counts_on a (suc n) = let e : a + 1 + n ≡ a + suc n = omega arith in ap (λ (xs : List ℕ). a ∷ xs) (counts_on (a + 1) n ∙ ap (λ (q : ℕ). range_with_len (a + 1) n ++ q ∷ []) e)

map_on : {A : Type 0} (f : A → ℕ) (xs : List A) (x : A) → map f (xs ++ x ∷ []) ≡ map f xs ++ f x ∷ []
map_on f [] x = refl
map_on f (y ∷ ys) x = ap (λ (ns : List ℕ). f y ∷ ns) (map_on f ys x)

pub room_for : (share programs k : ℕ) → suc k < programs → k * share + share ≤ programs * share
room_for share programs k l = let m : suc k * share ≤ programs * share = mul-le-mul_right share (omega arith) in let n : suc k * share ≡ k * share + share = suc-mul k share in
    let x : ℕ = k * share in let y : ℕ = programs * share in let p : ℕ = suc k * share in let m' : p ≤ y = m in let n' : p ≡ x + share = n in let g : x + share ≤ y = omega arith in g

-- one more value at the end of a list
pub each_on : {X : Type 0} (P : ℕ → X → Type 0) (xs : List X) (x : X) → ((o : ℕ) → o < length xs → (b : X) × (get_elem? xs o ≡ some b) × P o b) → P (length xs) x → (o : ℕ) → o < length (xs ++ x ∷ []) → (b : X) × (get_elem? (xs ++ x ∷ []) o ≡ some b) × P o b
each_on P [] x f p zero l = (x, refl, p)
each_on P [] x f p (suc o) l = absurd (omega arith)
each_on P (y ∷ ys) x f p zero l = f zero (omega arith)
each_on P (y ∷ ys) x f p (suc o) l = each_on (λ i. P (suc i)) ys x (λ i m. f (suc i) (omega arith)) p o (omega arith)

-- a berth into which nothing was put keeps zeros
pub keeps_zeros : {C : Type 0} (fits : C → ℕ → Type 0) (content : C → Option (List ℕ)) (n : ℕ) (b : Berth C) (o : ℕ) → berth_fits fits n b → b.version ≡ 0 → berth_keeps fits content n b o []
keeps_zeros fits content n b o f e = (f, inl (e, λ i l. refl))

module _ {W C : Type 0} where
  -- one seat more, with the next number
  pub numbered_on : (first n : ℕ) (xs : List (SeatView W C)) (s : SeatView W C) → AreNumbered first n xs → s.view.number ≡ first + n → AreNumbered first (n + 1) (xs ++ s ∷ [])
  numbered_on first n xs s e is = map_on (λ (q : SeatView W C). q.view.number) xs s ∙ (ap₂ (λ (ns : List ℕ) (q : ℕ). ns ++ q ∷ []) e is ∙ (sym (counts_on first n) ∙ (let g : suc n ≡ n + 1 = omega arith in ap (range_with_len first) g)))

  one : (P : SeatView W C → Type 0) (s : SeatView W C) → P s → All P (s ∷ [])
  one P s p zero d l = p
  one P s p (suc k) d l = absurd (omega arith)

  pub all_on : (P : SeatView W C → Type 0) (xs : List (SeatView W C)) (s : SeatView W C) → All P xs → P s → All P (xs ++ s ∷ [])
  all_on P xs s a k = All-append P xs (s ∷ []) a (one P s k)

  -- a seat that was just made, from what the last seat was
  made : (t : TableView) (s next : SeatView W C) (v : View) → IsFresh t s → next.table ≡ s.table → next.view ≡ v → v.sizes ≡ s.view.sizes → v.high ≤ s.view.high → v.hand ≡ empty_handed → v.notes ≡ s.view.notes → next.log ≡ [] → Path (Option (Berth C)) next.brought None → Path (Option (Berth C)) next.taken None → next.refusals ≡ no_refusals → IsFresh t next
  made t s next v k table is sizes high hand notes log brought taken refusals =
      let w = k.0.2 in let l = k.0.3 in (
        (
          table ∙ k.0.0,
          ap (λ (q : View). q.sizes) is ∙ (sizes ∙ k.0.1),
          subst (λ (q : View). q.high ≤ t.sizes.objects) (sym is) (omega arith),
          subst (λ (q : View). q.high ≤ length q.notes) (sym is) (subst (λ (ns : _). v.high ≤ length ns) (sym notes) (omega arith)),
          k.0.4,
        ),
        ap (λ (q : View). q.hand) is ∙ hand,
        ap (λ (q : View). q.notes) is ∙ (notes ∙ k.2),
        brought,
        taken,
        refusals,
        log,
      )

  pub owner_done : (t : TableView) (share programs k : ℕ) (s s' : SeatView W C) → suc k < programs → IsLastOwner t share programs k s → s' ≡ record s { view = first_part s.view } → IsFreshOwner t share s'
  owner_done t share programs k s s' l last is = subst (IsFreshOwner t share) (sym is) (
    (
      (last.0.0.0, last.0.0.1, (let a = last.0.0.2 in bounded a), (let a = last.0.0.3 in bounded a), last.0.0.4),
      last.0.1,
      last.0.2,
      last.0.3,
      last.0.4,
      last.0.5,
      last.0.6,
    ),
    (let e : s.view.number - 1 ≡ k = (let n = last.1 in omega arith) in last.2 ∙ ap (λ (q : ℕ). q * share) (sym e)),
    ap (λ (q : ℕ). s.view.low + q) last.4,
  )
    where
      bounded : {n : ℕ} → s.view.high ≤ n → s.view.low + s.view.share ≤ n
      bounded h = let r = room_for share programs k l in let lo = last.2 in let hi = last.3 in let sh = last.4 in
          let x : ℕ = k * share in let y : ℕ = programs * share in let r' : x + share ≤ y = r in let lo' : s.view.low ≡ x = lo in let hi' : s.view.high ≡ y = hi in omega arith

  pub owner_next : (t : TableView) (share programs k : ℕ) (s next : SeatView W C) → IsLastOwner t share programs k s → next.table ≡ s.table → next.view ≡ next_owner s.view → next.log ≡ [] → Path (Option (Berth C)) next.brought None → Path (Option (Berth C)) next.taken None → next.refusals ≡ no_refusals
      → IsLastOwner t share programs (k + 1) next
  owner_next t share programs k s next last table is log brought taken refusals = (
    made t s next (next_owner s.view) last.0 table is refl (omega arith) refl refl log brought taken refusals,
    ap (λ (q : View). q.number) is ∙ (let n = last.1 in omega arith),
    ap (λ (q : View). q.low) is ∙ (ap₂ (λ (a b : ℕ). a + b) last.2 last.4 ∙ (sym (suc-mul k share) ∙ (let e : suc k ≡ k + 1 = omega arith in ap (λ (q : ℕ). q * share) e))),
    ap (λ (q : View). q.high) is ∙ last.3,
    ap (λ (q : View). q.share) is ∙ last.4,
    ap (λ (q : View). q.last) is ∙ last.5,
  )

  pub mover_done : (t : TableView) (n : ℕ) (s s' : SeatView W C) → IsLastMover t n s → s' ≡ record s { view = whole_part s.view } → IsFreshMover t s'
  mover_done t n s s' last is = subst (IsFreshMover t) (sym is) last.0

  -- a mover's seat that was made by this seat
  pub mover_next : (t : TableView) (s next : SeatView W C) → IsFresh t s → s.view.last ≡ true → next.table ≡ s.table → next.view ≡ next_mover s.view → next.log ≡ [] → Path (Option (Berth C)) next.brought None → Path (Option (Berth C)) next.taken None → next.refusals ≡ no_refusals
      → IsLastMover t (suc s.view.number) next
  mover_next t s next k end table is log brought taken refusals = (
    (made t s next (next_mover s.view) k table is refl (omega arith) refl refl log brought taken refusals, ap (λ (q : View). q.high) is ∙ sym (ap (λ (q : View). q.low) is)),
    ap (λ (q : View). q.number) is,
    ap (λ (q : View). q.last) is ∙ end,
  )

  pub same_but_last : (s s' : SeatView W C) → s' ≡ record s { view = whole_part s.view } → s' ≡ record s { view = record s.view { last = s'.view.last } }
  same_but_last s s' e = e ∙ ap (λ (b : Bool). record s { view = record s.view { last = b } }) (sym (ap (λ (q : SeatView W C). q.view.last) e))

  -- a seat behind others is the last
  pub ends_on : (xs : List (SeatView W C)) (s : SeatView W C) → s.view.last ≡ true → EndWithLast (xs ++ s ∷ [])
  ends_on [] s e = e
  ends_on (x ∷ []) s e = e
  ends_on (x ∷ y ∷ ys) s e = ends_on (y ∷ ys) s e

  -- and more behind it, of which the last is the last
  pub ends_behind : (xs : List (SeatView W C)) (s : SeatView W C) (ys : List (SeatView W C)) → EndWithLast (s ∷ ys) → EndWithLast ((xs ++ s ∷ []) ++ ys)
  ends_behind [] s ys e = e
  ends_behind (x ∷ []) s ys e = e
  ends_behind (x ∷ y ∷ xs) s ys e = ends_behind (y ∷ xs) s ys e

  -- the last program's seat, when the others are made
  pub last_done : (t : TableView) (share programs : ℕ) (s s' : SeatView W C) (b : Bool) → 0 < programs → IsLastOwner t share programs (programs - 1) s → s' ≡ record s { view = record s.view { last = b } } → IsFreshOwner t share s'
  last_done t share programs s s' b some_programs last is = subst (IsFreshOwner t share) (sym is) (
    last.0,
    (let e : s.view.number - 1 ≡ programs - 1 = (let n = last.1 in omega arith) in last.2 ∙ ap (λ (q : ℕ). q * share) (sym e)),
    (let e : suc (programs - 1) ≡ programs = omega arith in last.3 ∙ (ap (λ (q : ℕ). q * share) (sym e) ∙ (suc-mul (programs - 1) share ∙ ap (λ (q : ℕ). q + share) (sym last.2)))),
  )
