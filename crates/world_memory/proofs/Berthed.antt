-- berths behind a push, and behind a put
use Rattle.std.proofs.Common.{◌≡◌, ◌≢◌, ◌⊎◌, inl, inr, ⊎_elim, ℕ, zero, suc, ◌+◌, ◌<◌, Bool, true, false, cond, List, [], ◌∷◌, ◌++◌, length, get_or, Option, Some, None, Result, Ok, Err, refl, sym, ap, ◌∙◌, subst, arith, lit<}
use Rattle.std.specs.Prelude.{◌==◌, slice_get, IfOk}
use Rattle.std.specs.Result.{is_ok}
use Rattle.std.proofs.Math.ListN.{set}
use Rattle.pointer_word.specs.Hands.{upd}
use Rattle.pointer_word.specs.Machine.{Far, Never}
use Rattle.pointer_word.proofs.Upd.{upd-same, upd-other, same_or}
use Rattle.remote_store.specs.Kept.{Keeps, next_version}
use Rattle.remote_store.specs.declared.berth.Berth.{Berth}
use Rattle.world_semantics.specs.Turns.{put_of}
use Rattle.world_memory.specs.Berths.{DoFit}
use Rattle.world_memory.specs.Shown.{AreFar, IsFar}

-- what stands where, behind a push
pub push_tells : {A : Type 0} (xs : List A) (y : A) (k : ℕ) (x : A) → slice_get (xs ++ y ∷ []) k ≡ Some x → ((k ≡ length xs) × (x ≡ y)) ⊎ (slice_get xs k ≡ Some x)
push_tells [] y zero x e = inl (refl, (let q : Some y ≡ Some x = e in cc))
push_tells [] y (suc k) x e = cc
push_tells (a ∷ xs) y zero x e = inr e
push_tells (a ∷ xs) y (suc k) x e = elim (push_tells xs y k x e) [ inl q ↦ inl (ap suc q.0, q.1) | inr q ↦ inr q ]

module _ {C : Type 0} (content : C → Option (List ℕ)) (n : ℕ) where
  far_new : (berths : List (Berth C)) (b : Berth C) → AreFar content n berths (λ _. Never) → b.version ≡ 0 → (o : ℕ) (y : Option (Berth C)) → slice_get (berths ++ b ∷ []) o ≡ y → IsFar content n o Never y
  far_new berths b all new o None e = tt
  far_new berths b all new o (Some c) e = elim (push_tells berths b o c e) [
    | inl q ↦ ap (λ (k : Berth C). k.version) q.1 ∙ new
    | inr q ↦ subst (IsFar content n o Never) q (all o)
  ]

  -- one more berth into which nothing was put
  pub far_push : (berths berths' : List (Berth C)) (b : Berth C) → berths' ≡ berths ++ b ∷ [] → AreFar content n berths (λ _. Never) → b.version ≡ 0 → AreFar content n berths' (λ _. Never)
  far_push berths berths' b e all new = subst (λ l. AreFar content n l (λ _. Never)) (sym e) (λ o. far_new berths b all new o (slice_get (berths ++ b ∷ []) o) refl)

-- one more berth whose cell holds rows of so many words
pub fit_push : {C : Type 0} (fits : C → ℕ → Type 0) (n : ℕ) (berths berths' : List (Berth C)) (b : Berth C) → berths' ≡ berths ++ b ∷ [] → DoFit fits berths n → fits b.cell n → DoFit fits berths' n
fit_push {C} fits n berths berths' b e all new =
    subst (λ l. DoFit fits l n) (sym e) (λ k x q. elim (push_tells berths b k x q) [ inl r ↦ subst (λ (y : Berth C). fits y.cell n) (sym r.1) new | inr r ↦ all k x r ])

-- what stands where, behind a write
get_same : {A : Type 0} (xs : List A) (k : ℕ) (x : A) (i : ℕ) → i ≡ k → k < length xs → slice_get (set xs k x) i ≡ Some x
get_same [] k x i e l = absurd (omega arith)
get_same (y ∷ xs) zero x i e l = ap (slice_get (x ∷ xs)) e
get_same (y ∷ xs) (suc k) x zero e l = absurd (omega arith)
get_same (y ∷ xs) (suc k) x (suc i) e l = get_same xs k x i (omega arith) (omega arith)

get_other : {A : Type 0} (xs : List A) (k : ℕ) (x : A) (i : ℕ) → i ≢ k → slice_get (set xs k x) i ≡ slice_get xs i
get_other [] k x i d = refl
get_other (y ∷ xs) zero x zero d = absurd (d refl)
get_other (y ∷ xs) zero x (suc i) d = refl
get_other (y ∷ xs) (suc k) x zero d = refl
get_other (y ∷ xs) (suc k) x (suc i) d = get_other xs k x i (λ e. d (ap suc e))

next_some : (v : ℕ) (b : Bool) → 0 < cond b 1 (v + 1)
next_some v true = lit< tt
next_some v false = omega arith

module _ {C : Type 0} (content : C → Option (List ℕ)) where
  -- what a put leaves in the berth
  put_leaves : {E : Type 0} (o v : ℕ) (words : List ℕ) (b : Berth C) (r : Result (Unit {0}) E) (ok : Bool) → ok ≡ is_ok r → b.version ≡ next_version v
      → IfOk r (λ _. Keeps (length words) b.version (content b.cell) o words) → IsFar content (length words) o (put_of ok words) (Some b)
  put_leaves o v words b (Ok u) true e new keeps =
      let some : 0 < b.version = subst (λ n. 0 < n) (sym new) (next_some v (v == 18446744073709551615)) in
      ⊎_elim (λ (z : (b.version ≡ 0) × ((i : ℕ) → i < length words → get_or words i 0 ≡ 0)). let none = z.0 in absurd (omega arith))
      (λ (k : (0 < b.version) × (length words ≡ length words) × (content b.cell ≡ Some (o ∷ b.version ∷ length words ∷ words))). k) keeps
  put_leaves o v words b (Ok u) false e new keeps = cc
  put_leaves o v words b (Err x) true e new keeps = cc
  put_leaves o v words b (Err x) false e new keeps = subst (λ n. 0 < n) (sym new) (next_some v (v == 18446744073709551615))

  -- one berth into which something was put
  pub far_put : {E : Type 0} (n : ℕ) (berths : List (Berth C)) (far : ℕ → Far) (o v : ℕ) (words : List ℕ) (b : Berth C) (r : Result (Unit {0}) E) (ok : Bool) → ok ≡ is_ok r → b.version ≡ next_version v
      → IfOk r (λ _. Keeps (length words) b.version (content b.cell) o words) → length words ≡ n → AreFar content n berths far → o < length berths → AreFar content n (set berths o b) (upd far o (put_of ok words))
  far_put n berths far o v words b r ok e new keeps l all inside = λ i. elim (same_or i o) [
    | inl q ↦ subst (λ x. IsFar content n i x (slice_get (set berths o b) i)) (sym (upd-same far o (put_of ok words) i q)) (subst (IsFar content n i (put_of ok words)) (sym (get_same berths o b i q inside))
        (subst (λ j. IsFar content n j (put_of ok words) (Some b)) (sym q) (subst (λ k. IsFar content k o (put_of ok words) (Some b)) l (put_leaves o v words b r ok e new keeps))))
    | inr d ↦ subst (λ x. IsFar content n i x (slice_get (set berths o b) i)) (sym (upd-other far o (put_of ok words) i d)) (subst (IsFar content n i (far i)) (sym (get_other berths o b i d)) (all i))
  ]
