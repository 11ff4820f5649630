-- The number that code has for a text.
use Rattle.std.proofs.Common.{◌≡◌, ℕ, zero, suc, ◌+◌, ◌-◌, ◌<◌, ◌≤◌, Bool, true, false, List, [], ◌∷◌, length, get_or, drop, Option, Some, None, refl, sym, ap, ◌∙◌, arith, cond}
use Rattle.std.specs.Prelude.{String, bytes_eq, slice_get, unwrap_or}
use Rattle.std.specs.declared.alloc.Global.{Global}
use Rattle.std.specs.BTreeMap.{BTreeMap, UpdatesBy, get_by_text}
use Rattle.std.specs.Cmp.Lexicographic.{slice_cmp}
use Rattle.std.specs.Ordering.{nat_cmp}
use Rattle.std.specs.String.{string_cmp, string_bytes}
use Rattle.std.proofs.lemmas.Bool.Decides.{same_from_decides}
use Rattle.std.proofs.lemmas.Map.Text.{btree_map_updates_text}
use Rattle.std.proofs.lemmas.Slice.Eq.{bytes_eq-Decides}
use Rattle.code_form.specs.Code as k
use Rattle.code_form.specs.Form.{Head}
use Rattle.c0_typed.specs.Views.{text_at}
use Rattle.lower_tables.specs.Texts.{number_among, number_from}

same_bytes : (a b : List ℕ) → bytes_eq a b ≡ true → a ≡ b
same_bytes a b e = (bytes_eq-Decides a b).0 e

both_ways : (a b : List ℕ) → bytes_eq a b ≡ bytes_eq b a
both_ways a b =
    let there = bytes_eq-Decides a b in
    let back = bytes_eq-Decides b a in
    same_from_decides (bytes_eq a b) (bytes_eq b a) there (λ e. sym (back.0 e), λ e. back.1 (sym e))

-- a text with a number has these bytes
number_is : (n : ℕ) (texts : List (List ℕ)) (bytes : List ℕ) (m : ℕ) → number_from n texts bytes ≡ Some m → (i : ℕ) × (m ≡ n + i) × (i < length texts) × (slice_get texts i ≡ Some bytes)
number_is n [] bytes m e = absurd (cc e)
number_is n (text ∷ rest) bytes m e = at (bytes_eq bytes text) refl e (number_is (suc n) rest bytes m)
  where
    at : (b : Bool) → bytes_eq bytes text ≡ b → (elim b [ true ↦ Some n | false ↦ number_from (suc n) rest bytes ]) ≡ Some m
        → (number_from (suc n) rest bytes ≡ Some m → (i : ℕ) × (m ≡ suc n + i) × (i < length rest) × (slice_get rest i ≡ Some bytes))
        → (i : ℕ) × (m ≡ n + i) × (i < length (text ∷ rest)) × (slice_get (text ∷ rest) i ≡ Some bytes)
    at true same e go = let h : n ≡ m = cc e in (0, omega (arith, h), omega arith, ap Some (sym (same_bytes bytes text same)))
    at false same e go =
        let z = go e in
        let h = z.1 in
        let l = z.2 in
        (suc z.0, omega (arith, h), omega (arith, l), z.3)

-- bytes without a number are no text's
none_is : (n : ℕ) (texts : List (List ℕ)) (j : ℕ) → ◌≡◌ {A = Option ℕ} (number_from n texts (get_or texts j [])) None → get_or texts j [] ≡ []
none_is n [] j e = refl
none_is n (text ∷ rest) zero e = absurd (at (bytes_eq text text) ((bytes_eq-Decides text text).1 refl) e)
  where
    at : (b : Bool) → b ≡ true → ◌≡◌ {A = Option ℕ} (elim b [ true ↦ Some n | false ↦ number_from (suc n) rest text ]) None → ⊥
    at true same e = cc e
    at false same e = cc same
none_is n (text ∷ rest) (suc j) e = at (bytes_eq (get_or rest j []) text) e (none_is (suc n) rest j)
  where
    at : (b : Bool) → ◌≡◌ {A = Option ℕ} (elim b [ true ↦ Some n | false ↦ number_from (suc n) rest (get_or rest j []) ]) None
        → (◌≡◌ {A = Option ℕ} (number_from (suc n) rest (get_or rest j [])) None → get_or rest j [] ≡ []) → get_or rest j [] ≡ []
    at true e go = absurd (cc e)
    at false e go = go e

-- the number of a text in code is that of a text
pub text_in : (texts : List (List ℕ)) (bytes : List ℕ) → number_among texts bytes ≤ length texts
text_in texts bytes = at (number_from 1 texts bytes) refl
  where
    at : (o : Option ℕ) → number_from 1 texts bytes ≡ o → unwrap_or o 0 ≤ length texts
    at None e = omega arith
    at (Some m) e =
        let z = number_is 1 texts bytes m e in
        let h = z.1 in
        let l = z.2 in
        omega (arith, h, l)

-- and that text has the bytes of the one that the program names
pub text_there : (H : Head) (number : ℕ) → k.text_at H (number_among H.texts (text_at H.texts number)) ≡ Some (text_at H.texts number)
text_there H number = at number (number_from 1 H.texts (text_at H.texts number)) refl
  where
    empty : (number : ℕ) → ◌≡◌ {A = Option ℕ} (number_from 1 H.texts (text_at H.texts number)) None → text_at H.texts number ≡ []
    empty zero e = refl
    empty (suc j) e = none_is 1 H.texts j e

    at : (number : ℕ) (o : Option ℕ) → number_from 1 H.texts (text_at H.texts number) ≡ o → k.text_at H (unwrap_or o 0) ≡ Some (text_at H.texts number)
    at number None e = ap Some (sym (empty number e))
    at number (Some m) e =
        let z = number_is 1 H.texts (text_at H.texts number) m e in
        let h = z.1 in
        let as_suc : m ≡ suc z.0 = omega (arith, h) in
        ap (k.text_at H) as_suc ∙ z.3

-- with the number of one text more in front
anew : (texts : List (List ℕ)) (y : List ℕ) (old new : BTreeMap (String Global) ℕ) (w : ℕ) → ((bytes : List ℕ) → get_by_text old bytes ≡ number_from (suc w) texts bytes)
    → UpdatesBy string_cmp (λ k. slice_cmp nat_cmp y (string_bytes k)) old new (Some w) → (bytes : List ℕ) → get_by_text new bytes ≡ number_from w (y ∷ texts) bytes
anew texts y old new w known u bytes = btree_map_updates_text y old new (Some w) u bytes ∙ at (bytes_eq y bytes) (bytes_eq bytes y) (both_ways y bytes)
  where
    at : (b b' : Bool) → b ≡ b' → cond b (Some w) (get_by_text old bytes) ≡ elim b' as (λ (b : Bool). Option ℕ) [ true ↦ Some w | false ↦ number_from (suc w) texts bytes ]
    at true true e = refl
    at false false e = known bytes
    at true false e = absurd (cc e)
    at false true e = absurd (cc e)

-- the texts from one on, by that one
from_here : (texts : List (List ℕ)) (i : ℕ) → i < length texts → get_or texts i [] ∷ drop (suc i) texts ≡ drop i texts
from_here [] i l = absurd (let q : ⊥ = omega (arith, l) in q)
from_here (text ∷ rest) zero l = refl
from_here (text ∷ rest) (suc i) l = from_here rest i (omega (arith, l))

-- once more, from the text in front on
pub one_more : (texts : List (List ℕ)) (i : ℕ) (key : List ℕ) (old new : BTreeMap (String Global) ℕ) (w : ℕ) → i < length texts → key ≡ get_or texts i []
    → ((bytes : List ℕ) → get_by_text old bytes ≡ number_from (suc (suc i)) (drop (suc i) texts) bytes)
    → UpdatesBy string_cmp (λ k. slice_cmp nat_cmp key (string_bytes k)) old new (Some w) → w ≡ suc i → (bytes : List ℕ) → get_by_text new bytes ≡ number_from (suc i) (drop i texts) bytes
one_more texts i key old new w within same known u number bytes =
    anew (drop (suc i) texts) key old new w (λ bytes. known bytes ∙ ap (λ n. number_from (suc n) (drop (suc i) texts) bytes) (sym number)) u bytes
    ∙ (λ k. number_from (number k) (same k ∷ drop (suc i) texts) bytes) ∙ ap (λ ts. number_from (suc i) ts bytes) (from_here texts i within)

-- a text with a number that is not 0
pub text_above : (texts : List (List ℕ)) (n : ℕ) → 0 < n → text_at texts n ≡ get_or texts (n - 1) []
text_above texts zero l = absurd (let q : ⊥ = omega (arith, l) in q)
text_above texts (suc j) l = let e : j ≡ suc j - 1 = omega arith in ap (λ i. get_or texts i []) e
