-- Texts and layouts by their numbers.
use Rattle.std.proofs.Common.{◌≡◌, ◌≢◌, ℕ, zero, suc, ◌<◌, ◌≤◌, Bool, true, false, Some, None, List, [], ◌∷◌, length, get_or, refl, sym, ap, subst, arith}
use Rattle.std.specs.Prelude.{◌-◌, ◌&&◌, nat_lt, map, slice_get}
use Rattle.std.proofs.lemmas.Bool.Decides.{nat_tests}
use Rattle.code_form.specs.declared.form.Kind.{Kind}
use Rattle.code_form.specs.Code.{text_at}
use Rattle.code_operations.specs.Layouts.{are_small}

-- an element that is there, and one that isn't
found : {S B : Type 0} (f : S → B) (xs : List S) (k : ℕ) (x : S) → k < length xs → x ≡ get_or xs k x → slice_get (map f xs) k ≡ Some (f x)
found f [] k x h e = absurd (omega arith)
found f (y ∷ xs) zero x h e = ap (λ z. Some (f z)) (sym e)
found f (y ∷ xs) (suc k) x h e = found f xs k x (omega arith) e

missing : {S B : Type 0} (f : S → B) (xs : List S) (k : ℕ) → length xs ≤ k → slice_get (map f xs) k ≡ None
missing f [] k h = refl
missing f (y ∷ xs) zero h = absurd (omega arith)
missing f (y ∷ xs) (suc k) h = missing f xs k (omega arith)

-- the text of a number behind 0
pub text_found : {S : Type 0} (f : S → List ℕ) (xs : List S) (ls : List (List Kind)) (n : ℕ) (x : S) → n ≢ 0 → n - 1 < length xs → x ≡ get_or xs (n - 1) x
    → text_at (record { texts = map f xs; layouts = ls }) n ≡ Some (f x)
text_found f xs ls zero x h k e = absurd (h refl)
text_found f xs ls (suc n) x h k e =
    let i : suc n - 1 ≡ n = omega arith in
    found f xs n x (subst (λ j. j < length xs) i k) (subst (λ j. x ≡ get_or xs j x) i e)

pub text_missing : {S : Type 0} (f : S → List ℕ) (xs : List S) (ls : List (List Kind)) (n : ℕ) → n ≢ 0 → length xs ≤ n - 1
    → text_at (record { texts = map f xs; layouts = ls }) n ≡ None
text_missing f xs ls zero h k = absurd (h refl)
text_missing f xs ls (suc n) h k = missing f xs n (omega arith)

-- a layout that is there is small
small_at : (ls : List (List Kind)) (k : ℕ) (l : List Kind) → are_small ls ≡ true → slice_get ls k ≡ Some l → length l < 4294967296
small_at [] k l s e = cc
small_at (x ∷ ls) zero l s e = let same : x ≡ l = cc in let low = first (length x) (are_small ls) s in let size : length x ≡ length l = cc in omega arith
  where
    first : (n : ℕ) (b : Bool) → nat_lt n 4294967296 && b ≡ true → n < 4294967296
    first n b e = grind (arith, nat_tests)
small_at (x ∷ ls) (suc k) l s e = small_at ls k l (second (nat_lt (length x) 4294967296) (are_small ls) s) e
  where
    second : (a b : Bool) → a && b ≡ true → b ≡ true
    second true b e = e
    second false b e = cc

pub small_in : {S : Type 0} (f : S → List Kind) (xs : List S) (k : ℕ) (x : S) → are_small (map f xs) ≡ true → k < length xs → x ≡ get_or xs k x → length (f x) < 4294967296
small_in f xs k x s h e = small_at (map f xs) k (f x) s (found f xs k x h e)
