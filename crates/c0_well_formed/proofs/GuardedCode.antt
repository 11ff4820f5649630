-- What code in order asks for, and that it is guarded, where each part is.
use Rattle.std.proofs.Common.{◌≡◌, ℕ, ◌<◌, ◌⊎◌, inl, inr, Bool, true, false, cond, List, [], ◌∷◌, ◌++◌, Option, Some, None, refl, sym, ap, ◌∙◌, subst, arith}
use Rattle.std.specs.Prelude.{not}
use Rattle.code_form.specs.declared.form.Fact.{Fact}
use Rattle.middle_form.specs.Form.{Code, Store, Choose, Loop, Block}
use Rattle.lower_expressions.specs.Expressions.{sequence}
use Rattle.lower.proofs.Registers.{and_true, number_same}
use Rattle.middle_form.specs.Guarded.{asks, is_guarded, is_kept, is_nothing_asked, is_same_check, joined, names, place_check, without_check}
use Rattle.c0_well_formed.proofs.CellKinds.{Each}
use Rattle.c0_well_formed.proofs.Tests.{both_true}

-- a fact names only registers below d
abbrev pub IsBelow : ℕ → Fact → Type 0
IsBelow d g = (r : ℕ) → names r g ≡ true → r < d

-- no fact
abbrev pub NoFact : Fact → Type 0
NoFact g = ⊥

-- ---- facts one by one

kept_or_not : (Q : Fact → Type 0) (g : Fact) (v : List Fact) (b : Bool) → Q g → Each Q v → Each Q (cond b (g ∷ v) v)
kept_or_not Q g v true q h = (q, h)
kept_or_not Q g v false q h = h

pub each_without : (Q : Fact → Type 0) (f : Fact) (w : List Fact) → Each Q w → Each Q (without_check f w)
each_without Q f [] h = tt
each_without Q f (g ∷ w) h = kept_or_not Q g (without_check f w) (not (is_same_check f g)) h.0 (each_without Q f w h.1)

taken : (P : Fact → Type 0) (f : Fact) → is_same_check f f ≡ true → (g : Fact) (v : List Fact) → (f ≡ g) ⊎ P g → Each P v → Each P (cond (not (is_same_check f g)) (g ∷ v) v)
taken P f s g v (inl e) h =
    let t : is_same_check f g ≡ true = subst (λ (x : Fact). is_same_check f x ≡ true) e s in
    subst (λ b. Each P (cond (not b) (g ∷ v) v)) (sym t) h
taken P f s g v (inr q) h = kept_or_not P g v (not (is_same_check f g)) q h

-- a check takes away what asks for it
pub each_taken : (P : Fact → Type 0) (f : Fact) → is_same_check f f ≡ true → (w : List Fact) → Each (λ g. (f ≡ g) ⊎ P g) w → Each P (without_check f w)
each_taken P f s [] h = tt
each_taken P f s (g ∷ w) h = taken P f s g (without_check f w) h.0 (each_taken P f s w h.1)

each_joined : (P : Fact → Type 0) (v w : List Fact) → Each P v → Each P w → Each P (joined v w)
each_joined P [] w h k = k
each_joined P (g ∷ v) w h k = (h.0, each_without P g (joined v w) (each_joined P v w h.1 k))

pub each_none : (Q : Fact → Type 0) (w : List Fact) → Each NoFact w → Each Q w
each_none Q [] h = tt
each_none Q (g ∷ w) h = absurd h.0

pub nothing_asked : (w : List Fact) → Each NoFact w → is_nothing_asked w ≡ true
nothing_asked [] h = refl
nothing_asked (g ∷ w) h = absurd h.0

not_true : (b : Bool) → (b ≡ true → ⊥) → not b ≡ true
not_true true n = absurd (n refl)
not_true false n = refl

-- a write of a register that no fact names
pub kept_away : (P : Fact → Type 0) (d : ℕ) → ((g : Fact) → P g → names d g ≡ true → ⊥) → (w : List Fact) → Each P w → is_kept (Some d) w ≡ true
kept_away P d away [] h = refl
kept_away P d away (g ∷ w) h = and_true (not (names d g)) (is_kept (Some d) w) (not_true (names d g) (away g h.0)) (kept_away P d away w h.1)

pub kept_below : (P : Fact → Type 0) (d : ℕ) → ((g : Fact) → P g → IsBelow d g) → (w : List Fact) → Each P w → is_kept (Some d) w ≡ true
kept_below P d low w h = kept_away P d (λ g p e. let q : d < d = low g p d e in omega arith) w h

-- the check of a place is the same as itself
pub same_place : (r : ℕ) (off : Option ℕ) → is_same_check (place_check r off) (place_check r off) ≡ true
same_place r None = number_same r
same_place r (Some d) = and_true _ _ (number_same d) (number_same r)

-- ---- code

-- the code is guarded where each fact asked behind it is a Q, and then each that is asked before it is a P
abbrev pub One : (P Q : Fact → Type 0) → Code → Type 0
One P Q x = (w : List Fact) → Each Q w → Each P (asks x w) × (is_guarded x w ≡ true)

-- so is code in order
pub record Guards (P Q : Fact → Type 0) (cs : List Code) : Type 0 where
  pub go : One P Q (sequence cs)

asks_append : (xs ys : List Code) (w : List Fact) → asks (sequence (xs ++ ys)) w ≡ asks (sequence xs) (asks (sequence ys) w)
asks_append [] ys w = refl
asks_append (x ∷ xs) ys w = ap (asks x) (asks_append xs ys w)

guarded_append : (xs ys : List Code) (w : List Fact) → is_guarded (sequence xs) (asks (sequence ys) w) ≡ true → is_guarded (sequence ys) w ≡ true → is_guarded (sequence (xs ++ ys)) w ≡ true
guarded_append [] ys w h k = k
guarded_append (x ∷ xs) ys w h k =
    let q = both_true (is_guarded x (asks (sequence xs) (asks (sequence ys) w))) (is_guarded (sequence xs) (asks (sequence ys) w)) h in
    and_true (is_guarded x (asks (sequence (xs ++ ys)) w)) (is_guarded (sequence (xs ++ ys)) w) (ap (is_guarded x) (asks_append xs ys w) ∙ q.0) (guarded_append xs ys w q.1 k)

pub guard_none : {P : Fact → Type 0} → Guards P P []
guard_none = record { go = λ w h. (h, refl) }

pub guard_append : {P Q R : Fact → Type 0} (xs ys : List Code) → Guards P Q xs → Guards Q R ys → Guards P R (xs ++ ys)
guard_append {P} xs ys g k = record {
  go = λ w h.
      let behind = k.go w h in
      let before = g.go (asks (sequence ys) w) behind.0 in
      (subst (Each P) (sym (asks_append xs ys w)) before.0, guarded_append xs ys w before.1 behind.1);
}

pub guard_then : {P Q R : Fact → Type 0} (x : Code) (xs : List Code) → One P Q x → Guards Q R xs → Guards P R (x ∷ xs)
guard_then x xs g k = record {
  go = λ w h.
      let behind = k.go w h in
      let before = g (asks (sequence xs) w) behind.0 in
      (before.0, and_true (is_guarded x (asks (sequence xs) w)) (is_guarded (sequence xs) w) before.1 behind.1);
}

pub guard_one : {P Q : Fact → Type 0} (x : Code) → One P Q x → Guards P Q (x ∷ [])
guard_one x g = guard_then x [] g guard_none

pub one_choose : (P Q : Fact → Type 0) (r : ℕ) (a c : Code) → One P Q a → One P Q c → One P Q (Choose r a c)
one_choose P Q r a c g k w h =
    let left = g w h in
    let right = k w h in
    (each_joined P (asks a w) (asks c w) left.0 right.0, and_true (is_guarded a w) (is_guarded c w) left.1 right.1)

-- where nothing is asked behind it

pub one_store : (Q : Fact → Type 0) (r : ℕ) (off : Option ℕ) (disp from : ℕ) → Q (place_check r off) → One Q NoFact (Store r off disp from)
one_store Q r off disp from q w h = ((q, each_none Q (without_check (place_check r off) w) (each_without NoFact (place_check r off) w h)), refl)

pub one_loop : (test : Code) (r : ℕ) (body : Code) → One NoFact NoFact test → One NoFact NoFact body → One NoFact NoFact (Loop test r body)
one_loop test r body g k w h =
    let first = g [] tt in
    let then = k [] tt in (
      tt,
      and_true (is_nothing_asked w) _ (nothing_asked w h)
          (and_true (is_nothing_asked (asks test [])) _ (nothing_asked (asks test []) first.0)
          (and_true (is_nothing_asked (asks body [])) _ (nothing_asked (asks body []) then.0) (and_true (is_guarded test []) (is_guarded body []) first.1 then.1))),
    )

pub one_block : (a : Code) → One NoFact NoFact a → One NoFact NoFact (Block a)
one_block a g w h =
    let inside = g [] tt in
    (inside.0, and_true (is_nothing_asked w) (is_guarded a []) (nothing_asked w h) inside.1)
