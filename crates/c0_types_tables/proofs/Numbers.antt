-- The numbers of names in a list.
use Rattle.std.proofs.Common.{◌≡◌, ℕ, suc, ◌+◌, ◌<◌, List, [], ◌∷◌, ◌++◌, length, refl, sym, ap, ◌∙◌, subst, arith, Bool, true, false, Option, Some, None}
use Rattle.std.specs.Prelude.{String, ◌||◌, cond, bytes_eq, is_some}
use Rattle.std.specs.Borrow.{Bor}
use Rattle.std.specs.Option.{option_copied}
use Rattle.std.specs.BTreeMap.{BTreeMap, UpdatesBy, get_by_text}
use Rattle.std.specs.Cmp.Lexicographic.{slice_cmp}
use Rattle.std.specs.Ordering.{nat_cmp}
use Rattle.std.specs.String.{string_cmp, string_bytes}
use Rattle.std.proofs.lemmas.Map.Text.{btree_map_updates_text}
use Rattle.c0_types_tables.specs.Numbered.{place_in}
use Rattle.c0_rules.specs.Types.{Name, is_among, number_in}
use Rattle.c0_rules.proofs.Rules.{same_name_is}
use Rattle.c0_types_tables.proofs.Tables.{both_ways}

pub place_within : (k : ℕ) (names : List Name) (n : Name) (m : ℕ) → place_in k names n ≡ Some m → m < k + length names
place_within k [] n m e = absurd (cc e)
place_within k (x ∷ names) n m e = at (bytes_eq n x) e (place_within (suc k) names n m)
  where
    at : (b : Bool) → (elim b [ true ↦ Some k | false ↦ place_in (suc k) names n ]) ≡ Some m → (place_in (suc k) names n ≡ Some m → m < suc k + length names)
        → m < k + length (x ∷ names)
    at true e go = let h : k ≡ m = cc e in omega (arith, h)
    at false e go = let h : m < suc k + length names = go e in omega (arith, h)

-- a name's place is its number
pub number_at : (k : ℕ) (names : List Name) (n : Name) (m : ℕ) → place_in k names n ≡ Some m → m ≡ k + number_in names n
number_at k [] n m e = absurd (cc e)
number_at k (x ∷ names) n m e = at (bytes_eq n x) e (number_at (suc k) names n m)
  where
    at : (b : Bool) → (elim b [ true ↦ Some k | false ↦ place_in (suc k) names n ]) ≡ Some m → (place_in (suc k) names n ≡ Some m → m ≡ suc k + number_in names n)
        → m ≡ k + (elim b [ true ↦ 0 | false ↦ suc (number_in names n) ])
    at true e go = let h : k ≡ m = cc e in omega (arith, h)
    at false e go = let h : m ≡ suc k + number_in names n = go e in omega (arith, h)

-- a name without a place has the number behind the last
pub number_past : (k : ℕ) (names : List Name) (n : Name) → ◌≡◌ {A = Option ℕ} (place_in k names n) None → number_in names n ≡ length names
number_past k [] n e = refl
number_past k (x ∷ names) n e = at (bytes_eq n x) e (number_past (suc k) names n)
  where
    at : (b : Bool) → ◌≡◌ {A = Option ℕ} (elim b [ true ↦ Some k | false ↦ place_in (suc k) names n ]) None → (◌≡◌ {A = Option ℕ} (place_in (suc k) names n) None → number_in names n ≡ length names)
        → (elim b [ true ↦ 0 | false ↦ suc (number_in names n) ]) ≡ suc (length names)
    at true e go = absurd (cc e)
    at false e go = ap suc (go e)

-- a name has a place where it is among the names
pub placed_is : (k : ℕ) (names : List Name) (n : Name) → is_some (place_in k names n) ≡ is_among n names
placed_is k [] n = refl
placed_is k (x ∷ names) n = at (bytes_eq n x) (placed_is (suc k) names n)
  where
    at : (b : Bool) → is_some (place_in (suc k) names n) ≡ is_among n names → is_some (elim b [ true ↦ Some k | false ↦ place_in (suc k) names n ]) ≡ (b || is_among n names)
    at true e = refl
    at false e = e

-- the first of two that is there
abbrev first_of : Option ℕ → Option ℕ → Option ℕ
first_of (Some m) o = Some m
first_of None o = o

-- with one name more at the end
behind : (k : ℕ) (names : List Name) (y n : Name) → place_in k (names ++ y ∷ []) n ≡ first_of (place_in k names n) (cond (bytes_eq n y) (Some (k + length names)) None)
behind k [] y n = at (bytes_eq n y)
  where
    at : (b : Bool) → (elim b [ true ↦ Some k | false ↦ None ]) ≡ cond b (Some (k + 0)) None
    at true = let h : k ≡ k + 0 = omega arith in ap Some h
    at false = refl
behind k (x ∷ names) y n = at (bytes_eq n x) (behind (suc k) names y n ∙ ap (λ m. first_of (place_in (suc k) names n) (cond (bytes_eq n y) (Some m) None)) same)
  where
    same : suc k + length names ≡ k + length (x ∷ names)
    same = omega arith

    at : (b : Bool) → place_in (suc k) (names ++ y ∷ []) n ≡ first_of (place_in (suc k) names n) (cond (bytes_eq n y) (Some (k + length (x ∷ names))) None)
        → (elim b [ true ↦ Some k | false ↦ place_in (suc k) (names ++ y ∷ []) n ]) ≡ first_of (elim b [ true ↦ Some k | false ↦ place_in (suc k) names n ]) (cond (bytes_eq n y) (Some (k + length (x ∷ names))) None)
    at true h = refl
    at false h = h

alone : (o : Option ℕ) → o ≡ first_of o None
alone None = refl
alone (Some m) = refl

-- a name that was there before keeps each place
pub place_again : (names : List Name) (y : Name) (m : ℕ) → place_in 0 names y ≡ Some m → (n : Name) → place_in 0 names n ≡ place_in 0 (names ++ y ∷ []) n
place_again names y m e n = at (bytes_eq n y) refl ∙ sym (behind 0 names y n)
  where
    at : (b : Bool) → bytes_eq n y ≡ b → place_in 0 names n ≡ first_of (place_in 0 names n) (cond b (Some (0 + length names)) None)
    at true h = let there : place_in 0 names n ≡ Some m = subst (λ z. place_in 0 names z ≡ Some m) (sym (same_name_is n y h)) e in there ∙ ap (λ o. first_of o (Some (0 + length names))) (sym there)
    at false h = alone (place_in 0 names n)

-- a name that was not there has the last place, in the names and in the map
pub place_anew : {Y : Type 0} (names : List Name) (y : Name) (old new : BTreeMap (String Y) ℕ) (w : ℕ) → ((n : Name) → get_by_text old n ≡ place_in 0 names n)
    → ◌≡◌ {A = Option ℕ} (get_by_text old y) None → w ≡ length names → UpdatesBy string_cmp (λ k. slice_cmp nat_cmp y (string_bytes k)) old new (Some w)
    → (n : Name) → get_by_text new n ≡ place_in 0 (names ++ y ∷ []) n
place_anew names y old new w known none e u n =
    btree_map_updates_text y old new (Some w) u n ∙ at (bytes_eq y n) (bytes_eq n y) refl (both_ways y n) ∙ sym (behind 0 names y n)
  where
    at : (b b' : Bool) → bytes_eq y n ≡ b → b ≡ b' → cond b (Some w) (get_by_text old n) ≡ first_of (place_in 0 names n) (cond b' (Some (0 + length names)) None)
    at true true h same =
        let gone : ◌≡◌ {A = Option ℕ} (place_in 0 names n) None = subst (λ z. ◌≡◌ {A = Option ℕ} (place_in 0 names z) None) (same_name_is y n h) (sym (known y) ∙ none) in
        let last : w ≡ 0 + length names = omega (arith, e) in
        ap Some last ∙ ap (λ o. first_of o (Some (0 + length names))) (sym gone)
    at false false h same = known n ∙ alone (place_in 0 names n)
    at true false h same = absurd (cc same)
    at false true h same = absurd (cc same)

pub absent : (r : Option (Bor ℕ)) (o : Option ℕ) → option_copied r ≡ o → is_some r ≡ false → ◌≡◌ {A = Option ℕ} o None
absent None o e h = sym e
absent (Some x) o e h = absurd (cc h)

pub present : (r : Option (Bor ℕ)) (o : Option ℕ) → option_copied r ≡ o → is_some r ≡ true → (m : ℕ) × (◌≡◌ {A = Option ℕ} o (Some m))
present None o e h = absurd (cc h)
present (Some x) o e h = (x.now, sym e)
