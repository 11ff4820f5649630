-- Lists of checks, and tests of what stands in lists.
use Rattle.std.proofs.Common.{◌≡◌, ℕ, zero, suc, ◌<◌, Bool, true, false, List, [], ◌∷◌, ◌++◌, length, get_or, refl, sym, ap, ◌∙◌, subst, arith}
use Rattle.std.specs.Prelude.{◌||◌, All, cond, slice_index_or, slice_set}
use Rattle.std.specs.List.{filter, list_any}
use Rattle.std.specs.declared.vec.Vec.{Vec}
use Rattle.std.specs.declared.alloc.Global.{Global}
use Rattle.std.proofs.lemmas.List.{map-append, map-set}
use Rattle.std.proofs.lemmas.List.Elements.{All-push}
use Rattle.scope_verifier.specs.declared.knowledge.Check.{Check}
use Rattle.scope_verifier.specs.Shown.{checks, is_fresh}

read : (lists : List (Vec Check Global)) (o : ℕ) (v d : Vec Check Global) → o < length lists → v ≡ get_or lists o d → get_or (checks lists) o [] ≡ v.items
read [] o v d l e = absurd (let z : ⊥ = omega arith in z)
read (x ∷ lists) zero v d l e = ap (λ (w : Vec Check Global). w.items) (sym e)
read (x ∷ lists) (suc o) v d l e = read lists o v d (omega arith) e

pub checks_set : (lists : List (Vec Check Global)) (o : ℕ) (v w : Vec Check Global) (c : Check) (since written : ℕ) → o < length lists → v ≡ slice_index_or lists o v
    → w.items ≡ filter (λ (c : Check). is_fresh since written c.at) v.items ++ c ∷ []
    → checks (slice_set lists o w) ≡ slice_set (checks lists) o (filter (λ (c : Check). is_fresh since written c.at) (slice_index_or (checks lists) o []) ++ c ∷ [])
checks_set lists o v w c since written l e h =
    map-set (λ (x : Vec Check Global). x.items) lists o w
    ∙ ap (slice_set (checks lists) o) (h ∙ ap (λ (x : List Check). filter (λ (c : Check). is_fresh since written c.at) x ++ c ∷ []) (sym (read lists o v v l e)))

-- ---- tests

-- an item that is kept or not, by whether it passes both tests
kept_more : {A : Type 0} (p q : A → Bool) (x : A) (xs : List A) (a b : Bool) → p x ≡ a → q x ≡ b → (a ≡ true → b ≡ true) → list_any p (filter q xs) ≡ list_any p xs → list_any p (cond b (x ∷ filter q xs) (filter q xs)) ≡ a || list_any p xs
kept_more p q x xs true true e f k h = ap (λ (c : Bool). c || list_any p (filter q xs)) e
kept_more p q x xs true false e f k h = absurd (cc (k refl))
kept_more p q x xs false true e f k h = ap (λ (c : Bool). c || list_any p (filter q xs)) e ∙ h
kept_more p q x xs false false e f k h = h

-- a test that passes only what is kept finds the same in what is kept
pub any_kept : {A : Type 0} (p q : A → Bool) (xs : List A) → ((x : A) → p x ≡ true → q x ≡ true) → list_any p (filter q xs) ≡ list_any p xs
any_kept p q [] h = refl
any_kept p q (x ∷ xs) h = kept_more p q x xs (p x) (q x) refl refl (h x) (any_kept p q xs h)

dropped_more : {A : Type 0} (p q : A → Bool) (x : A) (xs : List A) (a b : Bool) → p x ≡ a → q x ≡ b → (a ≡ true → b ≡ false) → list_any p (filter q xs) ≡ false → list_any p (cond b (x ∷ filter q xs) (filter q xs)) ≡ false
dropped_more p q x xs true true e f k h = absurd (cc (k refl))
dropped_more p q x xs a false e f k h = h
dropped_more p q x xs false true e f k h = ap (λ (c : Bool). c || list_any p (filter q xs)) e ∙ h

-- one that passes none of it finds none
pub any_dropped : {A : Type 0} (p q : A → Bool) (xs : List A) → ((x : A) → p x ≡ true → q x ≡ false) → list_any p (filter q xs) ≡ false
any_dropped p q [] h = refl
any_dropped p q (x ∷ xs) h = dropped_more p q x xs (p x) (q x) refl refl (h x) (any_dropped p q xs h)

-- one more list without checks
pub none_more : (xs : List (Vec Check Global)) (v : Vec Check Global) → v.items ≡ [] → All (λ (c : List Check). c ≡ []) (checks xs) → All (λ (c : List Check). c ≡ []) (checks (xs ++ v ∷ []))
none_more xs v e h =
    subst (All (λ (c : List Check). c ≡ [])) (sym (map-append (λ (x : Vec Check Global). x.items) xs (v ∷ []))) (All-push (λ (c : List Check). c ≡ []) (checks xs) v.items h e)
