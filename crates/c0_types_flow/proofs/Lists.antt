-- Tests over lists.
use Rattle.std.proofs.Common.{◌≡◌, ℕ, zero, suc, ◌+◌, ◌<◌, List, [], ◌∷◌, ◌++◌, map, length, get_or, drop, refl, sym, ap, subst, ◌∙◌, Bool, true, false, cond, Some, None, ltb, arith, inl, inr}
use Rattle.std.specs.Prelude.{◌⊎◌, ◌||◌, filter, is_some, not, IfErr, Result, Err}
use Rattle.std.specs.List.{Any, list_any, position_from, position_or_len}
use Rattle.std.proofs.lemmas.Iterator.Adapters.{position_from-zero}
use Rattle.std.proofs.lemmas.List.{drop_more}

-- a test of what a view shows
pub any_of_map : {A B : Type 0} (test : B → Bool) (view : A → B) (xs : List A) → list_any test (map view xs) ≡ list_any (λ x. test (view x)) xs
any_of_map test view [] = refl
any_of_map test view (x ∷ xs) = ap (λ b. test (view x) || b) (any_of_map test view xs)

-- what passes no test so far is decided by the rest
pub none_yet : {A : Type 0} (test : A → Bool) (xs ys : List A) (r : Bool) → true ≡ not (list_any test xs) → r ≡ not (list_any test ys) → r ≡ not (list_any test (xs ++ ys))
none_yet test [] ys r e h = h
none_yet test (x ∷ xs) ys r e h = at (test x) e (none_yet test xs ys r)
  where
    at : (b : Bool) → true ≡ not (b || list_any test xs) → (true ≡ not (list_any test xs) → r ≡ not (list_any test ys) → r ≡ not (list_any test (xs ++ ys))) → r ≡ not (b || list_any test (xs ++ ys))
    at true e k = absurd (cc e)
    at false e k = k e h

pub none_of_three : {A : Type 0} (test : A → Bool) (xs ys zs : List A) (r : Bool) → true ≡ not (list_any test xs) → true ≡ not (list_any test ys) → r ≡ not (list_any test zs) → r ≡ not (list_any test (xs ++ ys ++ zs))
none_of_three test xs ys zs r e k h = none_yet test (xs ++ ys) zs r (none_yet test xs ys true e k) h

-- ... so where the first doesn't
pub none_first : {A : Type 0} (test : A → Bool) (x : A) (ys : List A) (b r : Bool) → b ≡ test x → true ≡ not b → r ≡ not (list_any test ys) → r ≡ not (list_any test (x ∷ ys))
none_first test x ys true r e n h = absurd (cc n)
none_first test x ys false r e n h = h ∙ ap (λ z. not (z || list_any test ys)) e

-- an element for which it holds
pub any_at : {A : Type 0} (P : A → Type 0) (xs : List A) (i : ℕ) (x : A) → i < length xs → x ≡ get_or xs i x → P x → Any P xs
any_at P xs i x l e h = (i, x, l, sym e, h)

-- a part in which nothing passes
pub past : {A : Type 0} (test : A → Bool) (xs ys : List A) → true ≡ not (list_any test xs) → list_any test (xs ++ ys) ≡ list_any test ys
past test [] ys e = refl
past test (x ∷ xs) ys e = at (test x) e (past test xs ys)
  where
    at : (b : Bool) → true ≡ not (b || list_any test xs) → (true ≡ not (list_any test xs) → list_any test (xs ++ ys) ≡ list_any test ys) → (b || list_any test (xs ++ ys)) ≡ list_any test ys
    at true e k = absurd (cc e)
    at false e k = k e

-- what holds of some part of a list, from the element for which it holds
pub at_place : {A : Type 0} (P : A → Type 0) (Q : List A → Type 0) → ((x : A) (xs : List A) → P x → Q (x ∷ xs)) → ((x : A) (xs : List A) → Q xs → Q (x ∷ xs))
    → (xs : List A) (i : ℕ) (x : A) → i < length xs → x ≡ get_or xs i x → P x → Q xs
at_place P Q first later [] i x l e h = absurd (omega arith)
at_place P Q first later (y ∷ xs) zero x l e h = first y xs (subst P e h)
at_place P Q first later (y ∷ xs) (suc i) x l e h = later y xs (at_place P Q first later xs i x (omega arith) e h)

-- behind the first of the parts that are left, in which nothing passes
pub step_past : {A B : Type 0} (test : B → Bool) (part : A → List B) (parts : List A → List B) → ((x : A) (xs : List A) → parts (x ∷ xs) ≡ part x ++ parts xs)
    → (xs : List A) (i : ℕ) (x : A) → i < length xs → x ≡ get_or xs i x → true ≡ not (list_any test (part x)) → list_any test (parts (drop (i + 1) xs)) ≡ list_any test (parts (drop i xs))
step_past test part parts split xs i x h e k =
    sym (past test (part x) (parts (drop (i + 1) xs)) k)
    ∙ ap (λ z. list_any test (part z ++ parts (drop (i + 1) xs))) e
    ∙ ap (list_any test) (sym (split (get_or xs i x) (drop (i + 1) xs)))
    ∙ ap (λ z. list_any test (parts z)) (sym (drop_more xs i x h))

-- something passes in the first part, or in the second one
pub found_left : {A : Type 0} (test : A → Bool) (xs ys : List A) → false ≡ not (list_any test xs) → false ≡ not (list_any test (xs ++ ys))
found_left test [] ys e = absurd (cc e)
found_left test (x ∷ xs) ys e = at (test x) e (found_left test xs ys)
  where
    at : (b : Bool) → false ≡ not (b || list_any test xs) → (false ≡ not (list_any test xs) → false ≡ not (list_any test (xs ++ ys))) → false ≡ not (b || list_any test (xs ++ ys))
    at true e k = refl
    at false e k = k e

pub found_right : {A : Type 0} (test : A → Bool) (xs ys : List A) → false ≡ not (list_any test ys) → false ≡ not (list_any test (xs ++ ys))
found_right test [] ys e = e
found_right test (x ∷ xs) ys e = at (test x) (found_right test xs ys e)
  where
    at : (b : Bool) → false ≡ not (list_any test (xs ++ ys)) → false ≡ not (b || list_any test (xs ++ ys))
    at true k = refl
    at false k = k

-- ---- causes

-- what holds of the error that is returned
pub at_err : {T E : Type 0} (r : Result T E) (y x : E) (P : E → Type 0) → r ≡ Err y → y ≡ x → P x → IfErr r P
at_err r y x P e q h = subst (λ z. IfErr z P) (sym e) (subst P (sym q) h)

-- one of three, with two more behind
pub before_two : {A B C D E : Type 0} → A ⊎ B ⊎ C → A ⊎ B ⊎ C ⊎ D ⊎ E
before_two (inl h) = inl h
before_two (inr (inl h)) = inr (inl h)
before_two (inr (inr h)) = inr (inr (inl h))

-- ---- places

found_from : {A : Type 0} (test : A → Bool) (i : ℕ) (xs : List A) → is_some (position_from test i xs) ≡ list_any test xs
found_from test i [] = refl
found_from test i (x ∷ xs) = at (test x) (found_from test (i + 1) xs)
  where
    at : (b : Bool) → is_some (position_from test (i + 1) xs) ≡ list_any test xs → is_some (cond b (Some i) (position_from test (i + 1) xs)) ≡ (b || list_any test xs)
    at true e = refl
    at false e = e

-- there is a first place exactly where some element passes
pub found_where : {A : Type 0} (test : A → Bool) (xs : List A) → is_some (cond (ltb (position_or_len test xs) (length xs)) (Some (position_or_len test xs)) None) ≡ list_any test xs
found_where test xs = ap is_some (position_from-zero test xs) ∙ found_from test 0 xs

-- the element at a place passes
pub passes_at : {A : Type 0} (test : A → Bool) (xs : List A) (i : ℕ) (x : A) → i < length xs → x ≡ get_or xs i x → test x ≡ true → list_any test xs ≡ true
passes_at test xs i x = at_place (λ x. test x ≡ true) (λ xs. list_any test xs ≡ true) (λ x xs e. ap (λ z. z || list_any test xs) e) (λ x xs e. ap (λ z. test x || z) e ∙ or_true (test x)) xs i x
  where
    or_true : (b : Bool) → (b || true) ≡ true
    or_true true = refl
    or_true false = refl

-- ---- what passes so far

-- what passes of the elements from this one on
pub passing_step : {A B : Type 0} (test : B → Bool) (view : A → B) (xs : List A) (i : ℕ) (x : A) → i < length xs → x ≡ get_or xs i x
    → filter test (map view (drop i xs)) ≡ cond (test (view x)) (view x ∷ filter test (map view (drop (i + 1) xs))) (filter test (map view (drop (i + 1) xs)))
passing_step test view xs i x l e =
    ap (λ z. filter test (map view z)) (drop_more xs i x l) ∙ ap (λ z. filter test (map view (z ∷ drop (i + 1) xs))) (sym e)
