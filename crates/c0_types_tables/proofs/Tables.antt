-- Maps with names as keys, read as tables.
use Rattle.std.proofs.Common.{◌≡◌, [], ◌∷◌, refl, sym, ap, ◌∙◌, subst, Bool, true, false, Option, Some}
use Rattle.std.specs.Prelude.{String, ◌&&◌, cond, bytes_eq, option_map}
use Rattle.std.specs.BTreeMap.{BTreeMap, UpdatesBy, get_by_text}
use Rattle.std.specs.Cmp.Lexicographic.{slice_cmp}
use Rattle.std.specs.Ordering.{nat_cmp}
use Rattle.std.specs.String.{string_cmp, string_bytes}
use Rattle.std.proofs.lemmas.Map.Text.{btree_map_updates_text}
use Rattle.std.proofs.lemmas.Bool.{eq-eqb}
use Rattle.c0_rules.specs.Types.{Name, with_name}
use Rattle.c0_rules.proofs.Rules.{same_name_is}

same_self : (n : Name) → bytes_eq n n ≡ true
same_self [] = refl
same_self (a ∷ n) = at _ (eq-eqb a a refl) (same_self n)
  where
    at : (b : Bool) → b ≡ true → bytes_eq n n ≡ true → (b && bytes_eq n n) ≡ true
    at true e h = h
    at false e h = absurd (cc e)

turned : (a b : Name) → bytes_eq a b ≡ true → bytes_eq b a ≡ true
turned a b e = let same : a ≡ b = same_name_is a b e in subst (λ z. bytes_eq b z ≡ true) (sym same) (same_self b)

pub both_ways : (a b : Name) → bytes_eq a b ≡ bytes_eq b a
both_ways a b = at (bytes_eq a b) (bytes_eq b a) refl refl
  where
    at : (x y : Bool) → bytes_eq a b ≡ x → bytes_eq b a ≡ y → x ≡ y
    at true true e f = refl
    at false false e f = refl
    at true false e f = sym (turned a b e) ∙ f
    at false true e f = sym e ∙ turned b a f

through : {X A : Type 0} (view : X → A) (b : Bool) (x : X) (o : Option X) → option_map view (cond b (Some x) o) ≡ cond b (Some (view x)) (option_map view o)
through view true x o = refl
through view false x o = refl

-- what a map holds behind `insert`
pub table_after : {X Y A : Type 0} (view : X → A) (old new : BTreeMap (String Y) X) (n : Name) (x : X) → UpdatesBy string_cmp (λ k. slice_cmp nat_cmp n (string_bytes k)) old new (Some x)
    → (m : Name) → option_map view (get_by_text new m) ≡ with_name n (view x) (λ z. option_map view (get_by_text old z)) m
table_after view old new n x u m =
    ap (option_map view) (btree_map_updates_text n old new (Some x) u m) ∙ through view (bytes_eq n m) x (get_by_text old m)
    ∙ ap (λ b. cond b (Some (view x)) (option_map view (get_by_text old m))) (both_ways n m)
