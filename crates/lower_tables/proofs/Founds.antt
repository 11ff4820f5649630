-- What an index has for kinds, as a list of them grows.
use Rattle.std.proofs.Common.{◌≡◌, ℕ, suc, ◌+◌, ◌<◌, ◌≤◌, Bool, true, false, cond, nat_lt, List, [], ◌∷◌, ◌++◌, Result, Ok, Err, length, length-append, refl, sym, ap, ◌∙◌, arith}
use Rattle.std.specs.Result.{MatchResult}
use Rattle.std.proofs.lemmas.Bool.{le-ltb, lt-ltb, ltb-false}
use Rattle.code_form.specs.declared.form.Kind.{Kind}
use Rattle.code_form.specs.Code.{same_kind}
use Rattle.lower_tables.specs.declared.index.Index.{Index}
use Rattle.lower_tables.specs.Gathered.{with_kind}
use Rattle.lower_tables.specs.Indexed.{IsIndexed, found, slot}
use Rattle.lower_tables.specs.Kinds.{position}
use Rattle.lower_tables.proofs.CodeKinds.{position_within}
use Rattle.lower_tables.proofs.CodeKnown.{position_kept}
use Rattle.lower_tables.proofs.Positions.{same_kind_is}

none_at : (p n : ℕ) (b : Bool) → nat_lt p n ≡ b → cond b (suc p) 0 ≡ 0 → p ≤ n → n ≡ p
none_at p n true e z h = absurd (let q : ⊥ = omega (arith, z) in q)
none_at p n false e z h = omega (arith, h, ltb-false p n e)

-- where nothing is found of a kind, it is not in the list
pub none_found : (k : Kind) (ks : List Kind) → found k ks ≡ 0 → length ks ≡ position k ks
none_found k ks z = none_at (position k ks) (length ks) (nat_lt (position k ks) (length ks)) refl z (position_within k ks)

some_at : (p n m : ℕ) (b : Bool) → nat_lt p n ≡ b → cond b (suc p) 0 ≡ suc m → m ≡ p
some_at p n m true e z = omega (arith, z)
some_at p n m false e z = absurd (let q : ⊥ = omega (arith, z) in q)

-- where something is, it stands there
pub some_found : (k : Kind) (ks : List Kind) (m : ℕ) → found k ks ≡ suc m → m ≡ position k ks
some_found k ks m z = some_at (position k ks) (length ks) m (nat_lt (position k ks) (length ks)) refl z

found_in : (k : Kind) (ks : List Kind) → position k ks < length ks → found k ks ≡ suc (position k ks)
found_in k ks h = ap (λ b. cond b (suc (position k ks)) 0) (lt-ltb (position k ks) (length ks) h)

found_out : (k : Kind) (ks : List Kind) → length ks ≤ position k ks → found k ks ≡ 0
found_out k ks h = ap (λ b. cond b (suc (position k ks)) 0) (le-ltb (position k ks) (length ks) h)

step : (k j : Kind) (js : List Kind) (b : Bool) → same_kind k j ≡ b → position k (j ∷ js) ≡ cond b 0 (suc (position k js))
step k j js b e = ap (λ c. cond c 0 (suc (position k js))) e

behind_at : (k j : Kind) (js rest : List Kind) (b : Bool) → same_kind k j ≡ b → (length js ≡ position k js → position k (js ++ rest) ≡ length js + position k rest) → suc (length js) ≡ position k (j ∷ js) → position k (j ∷ (js ++ rest)) ≡ suc (length js) + position k rest
behind_at k j js rest true e more h = absurd (let q : ⊥ = omega (arith, h, step k j js true e) in q)
behind_at k j js rest false e more h = omega (arith, step k j (js ++ rest) false e, more (omega (arith, h, step k j js false e)))

-- behind a list without the kind
position_behind : (k : Kind) (ks rest : List Kind) → length ks ≡ position k ks → position k (ks ++ rest) ≡ length ks + position k rest
position_behind k [] rest h = omega arith
position_behind k (j ∷ js) rest h = behind_at k j js rest (same_kind k j) refl (position_behind k js rest) h

-- one kind more at the end, which was not there: another one that was there, and one that was not
other_in : (k j : Kind) (ks : List Kind) → position k ks < length ks → found k (ks ++ j ∷ []) ≡ found k ks
other_in k j ks h =
    let same : position k (ks ++ j ∷ []) ≡ position k ks = position_kept k ks (j ∷ []) h in
    let there : found k (ks ++ j ∷ []) ≡ suc (position k (ks ++ j ∷ [])) = found_in k (ks ++ j ∷ []) (omega (arith, same, h, length-append ks (j ∷ []))) in
    there ∙ ap suc same ∙ sym (found_in k ks h)

other_out : (k j : Kind) (ks : List Kind) → same_kind k j ≡ false → length ks ≡ position k ks → found k (ks ++ j ∷ []) ≡ found k ks
other_out k j ks e h =
    found_out k (ks ++ j ∷ []) (omega (arith, position_behind k ks (j ∷ []) h, step k j [] false e, length-append ks (j ∷ [])))
    ∙ sym (found_out k ks (omega (arith, h)))

other_at : (k j : Kind) (ks : List Kind) → same_kind k j ≡ false → (b : Bool) → nat_lt (position k ks) (length ks) ≡ b → found k (ks ++ j ∷ []) ≡ found k ks
other_at k j ks e true l = other_in k j ks (ltb_there (position k ks) (length ks) l)
  where
    ltb_there : (p n : ℕ) → nat_lt p n ≡ true → p < n
    ltb_there p n h = grind arith
other_at k j ks e false l = other_out k j ks e (omega (arith, ltb-false (position k ks) (length ks) l, position_within k ks))

-- its own
own : (k j : Kind) (ks : List Kind) → same_kind k j ≡ true → length ks ≡ position j ks → found k (ks ++ j ∷ []) ≡ suc (length ks)
own k j ks e h =
    let same : position k ks ≡ position j ks = ap (λ a. position a ks) (same_kind_is k j e) in
    let at : position k (ks ++ j ∷ []) ≡ length ks = position_behind k ks (j ∷ []) (h ∙ sym same) ∙ (omega (arith, step k j [] true e)) in
    found_in k (ks ++ j ∷ []) (omega (arith, at, length-append ks (j ∷ []))) ∙ ap suc at

grown : (k j : Kind) (ks : List Kind) → length ks ≡ position j ks → (b : Bool) → same_kind k j ≡ b → cond b (suc (length ks)) (found k ks) ≡ found k (ks ++ j ∷ [])
grown k j ks h true e = sym (own k j ks e h)
grown k j ks h false e = sym (other_at k j ks e (nat_lt (position k ks) (length ks)) refl)

-- an index with the number of a kind that comes behind the others
pub added : (x y : Index) (j : Kind) (ks : List Kind) → IsIndexed x ks → length ks ≡ position j ks → ((k : Kind) → slot y k ≡ cond (same_kind k j) (suc (length ks)) (slot x k)) → IsIndexed y (ks ++ j ∷ [])
added x y j ks is h puts k = puts k ∙ ap (λ m. cond (same_kind k j) (suc (length ks)) m) (is k) ∙ grown k j ks h (same_kind k j) refl

long_at : (j : Kind) (ks : List Kind) (b : Bool) → length (cond b ks (ks ++ j ∷ [])) ≤ suc (length ks)
long_at j ks true = omega arith
long_at j ks false = omega (arith, length-append ks (j ∷ []))

pub with_kind_long : (j : Kind) (ks : List Kind) → length (with_kind j ks) ≤ suc (length ks)
with_kind_long j ks = long_at j ks (nat_lt (position j ks) (length ks))

-- a kind that is there already, and one that is not
pub with_there : (j : Kind) (ks : List Kind) → position j ks < length ks → ks ≡ with_kind j ks
with_there j ks h = sym (ap (λ b. cond b ks (ks ++ j ∷ [])) (lt-ltb (position j ks) (length ks) h))

pub with_new : (j : Kind) (ks : List Kind) → length ks ≤ position j ks → ks ++ j ∷ [] ≡ with_kind j ks
with_new j ks h = sym (ap (λ b. cond b ks (ks ++ j ∷ [])) (le-ltb (position j ks) (length ks) h))

-- as memory may be refused to it
pub grows_by_one : (E : Type 0) (r : Result (Unit {0}) E) (t ks : List Kind) (j : Kind) → MatchResult r (λ _. t ≡ with_kind j ks) (λ _. t ≡ ks) → length t ≤ suc (length ks)
grows_by_one E (Ok x) t ks j h = omega (arith, ap length h, with_kind_long j ks)
grows_by_one E (Err x) t ks j h = omega (arith, ap length h)
