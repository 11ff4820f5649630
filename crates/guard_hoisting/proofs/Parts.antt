-- Code whose first part was looked at, and code that has no other code in it.
use Rattle.std.proofs.Common.{◌≡◌, ℕ, max, true, Option, List, [], ◌∷◌, ◌++◌, refl, sym, ap, ◌∙◌, arith, append_assoc}
use Rattle.code_form.specs.declared.form.Kind.{Kind}
use Rattle.middle_form.specs.Scoped as s
use Rattle.middle_form.specs.ScopedViews.{scoped_code_of, scoped_sequence_of}
use Rattle.middle_form.specs.declared.scoped.ScopedCode.{ScopedCode, Sequence', Do, Load, Store, LoadBy, StoreBy, Aim, Leave, Loose, Call, Fail, Choose', Loop', Block', Exit}
use Rattle.scoped_building.specs.Building.{codes, in_order, is_straight}
use Rattle.scoped_building.proofs.Rows.{row_is_not_straight}
use Rattle.guard_hoisting.specs.declared.ways.Way.{Way}
use Rattle.guard_hoisting.specs.Hoisted.{hoisted, inside, most_served, moved, open_behind}

-- ---- a loop with its scopes

pub rest_moved : (ws : List Way) (before behind : List ScopedCode) (x : ScopedCode) (all rest : List ScopedCode) (whole : List s.Code)
    → all ≡ x ∷ rest → codes behind ≡ codes before ++ moved ws (scoped_code_of x)
    → codes before ++ moved ws (scoped_sequence_of all) ≡ whole → codes behind ++ moved ws (scoped_sequence_of rest) ≡ whole
rest_moved ws before behind x all rest whole e p h =
    ap (λ z. z ++ moved ws (scoped_sequence_of rest)) p
    ∙ (append_assoc (codes before) (moved ws (scoped_code_of x)) (moved ws (scoped_sequence_of rest)) ∙ (ap (λ l. codes before ++ moved ws (scoped_sequence_of l)) (sym e) ∙ h))

-- the parts that were put together, from none on
pub put_together : (none made : List ScopedCode) (xs : List s.Code) → none ≡ [] → codes made ≡ codes none ++ xs → in_order (codes made) ≡ in_order xs
put_together none made xs n h = ap in_order (h ∙ ap (λ l. codes l ++ xs) n)

-- ---- code

pub rest_hoisted : (ks : List Kind) (before behind : List ScopedCode) (x : ScopedCode) (all rest : List ScopedCode) (o p : List ℕ) (whole : List s.Code)
    → all ≡ x ∷ rest → codes behind ≡ codes before ++ hoisted ks (scoped_code_of x) o → p ≡ open_behind (scoped_code_of x) o
    → codes before ++ hoisted ks (scoped_sequence_of all) o ≡ whole → codes behind ++ hoisted ks (scoped_sequence_of rest) p ≡ whole
rest_hoisted ks before behind x all rest o p whole e q r h =
    ap (λ z. z ++ hoisted ks (scoped_sequence_of rest) p) q
    ∙ (ap (λ z. (codes before ++ hoisted ks (scoped_code_of x) o) ++ hoisted ks (scoped_sequence_of rest) z) r
    ∙ (append_assoc (codes before) (hoisted ks (scoped_code_of x) o) (hoisted ks (scoped_sequence_of rest) (open_behind (scoped_code_of x) o))
    ∙ (ap (λ l. codes before ++ hoisted ks (scoped_sequence_of l) o) (sym e) ∙ h)))

pub rest_open : (x : ScopedCode) (all rest : List ScopedCode) (o p whole : List ℕ) → all ≡ x ∷ rest → p ≡ open_behind (scoped_code_of x) o → open_behind (scoped_sequence_of all) o ≡ whole
    → open_behind (scoped_sequence_of rest) p ≡ whole
rest_open x all rest o p whole e r h = ap (open_behind (scoped_sequence_of rest)) r ∙ (ap (λ l. open_behind (scoped_sequence_of l) o) (sym e) ∙ h)

pub rest_most : (ks : List Kind) (before behind : ℕ) (x : ScopedCode) (all rest : List ScopedCode) (o p : List ℕ) (whole : ℕ)
    → all ≡ x ∷ rest → behind ≡ max before (most_served ks (scoped_code_of x) o) → p ≡ open_behind (scoped_code_of x) o
    → max before (most_served ks (scoped_sequence_of all) o) ≡ whole → max behind (most_served ks (scoped_sequence_of rest) p) ≡ whole
rest_most ks before behind x all rest o p whole e m r h =
    let first : most_served ks (scoped_sequence_of all) o ≡ max (most_served ks (scoped_code_of x) o) (most_served ks (scoped_sequence_of rest) (open_behind (scoped_code_of x) o)) = ap (λ l. most_served ks (scoped_sequence_of l) o) e in
    let last : most_served ks (scoped_sequence_of rest) p ≡ most_served ks (scoped_sequence_of rest) (open_behind (scoped_code_of x) o) = ap (most_served ks (scoped_sequence_of rest)) r in
    omega (arith, first, last, m, h)

-- ---- code that has no other code in it

-- it stays as it is in a loop, but for loads, stores and leaves
pub moved_alone : (ws : List Way) (a : ScopedCode) → ((to z r : ℕ) (off : Option ℕ) (disp : ℕ) → a ≡ Load to z r off disp → ⊥) → ((z r : ℕ) (off : Option ℕ) (disp from : ℕ) → a ≡ Store z r off disp from → ⊥)
    → ((z : ℕ) → a ≡ Leave z → ⊥) → is_straight (scoped_code_of a) ≡ true → moved ws (scoped_code_of a) ≡ scoped_code_of a ∷ []
moved_alone ws (Sequence' shape all) l t v e = absurd (row_is_not_straight all e)
moved_alone ws (Do o) l t v e = refl
moved_alone ws (Load to z r off disp) l t v e = absurd (l to z r off disp refl)
moved_alone ws (Store z r off disp from) l t v e = absurd (t z r off disp from refl)
moved_alone ws (LoadBy to z r off disp) l t v e = refl
moved_alone ws (StoreBy z r off disp from) l t v e = refl
moved_alone ws (Aim z r off disp) l t v e = refl
moved_alone ws (Leave z) l t v e = absurd (v z refl)
moved_alone ws (Loose z) l t v e = refl
moved_alone ws (Call to g args) l t v e = refl
moved_alone ws (Fail a) l t v e = refl
moved_alone ws (Choose' a p b q c) l t v e = absurd (cc e)
moved_alone ws (Loop' p test a q body) l t v e = absurd (cc e)
moved_alone ws (Block' p a) l t v e = absurd (cc e)
moved_alone ws (Exit k) l t v e = refl

-- no scope is opened or left by the rest
pub open_alone : (o : List ℕ) (a : ScopedCode) → ((to z r : ℕ) (off : Option ℕ) (disp : ℕ) → a ≡ Load to z r off disp → ⊥) → ((z r : ℕ) (off : Option ℕ) (disp from : ℕ) → a ≡ Store z r off disp from → ⊥)
    → ((z r : ℕ) (off : Option ℕ) (disp : ℕ) → a ≡ Aim z r off disp → ⊥) → ((z : ℕ) → a ≡ Loose z → ⊥) → ((z : ℕ) → a ≡ Leave z → ⊥) → is_straight (scoped_code_of a) ≡ true → o ≡ open_behind (scoped_code_of a) o
open_alone o (Sequence' shape all) l t m n v e = absurd (row_is_not_straight all e)
open_alone o (Do x) l t m n v e = refl
open_alone o (Load to z r off disp) l t m n v e = absurd (l to z r off disp refl)
open_alone o (Store z r off disp from) l t m n v e = absurd (t z r off disp from refl)
open_alone o (LoadBy to z r off disp) l t m n v e = refl
open_alone o (StoreBy z r off disp from) l t m n v e = refl
open_alone o (Aim z r off disp) l t m n v e = absurd (m z r off disp refl)
open_alone o (Leave z) l t m n v e = absurd (v z refl)
open_alone o (Loose z) l t m n v e = absurd (n z refl)
open_alone o (Call to g args) l t m n v e = refl
open_alone o (Fail a) l t m n v e = refl
open_alone o (Choose' a p b q c) l t m n v e = absurd (cc e)
open_alone o (Loop' p test a q body) l t m n v e = absurd (cc e)
open_alone o (Block' p a) l t m n v e = absurd (cc e)
open_alone o (Exit k) l t m n v e = refl

pub hoisted_alone : (ks : List Kind) (a : s.Code) (o : List ℕ) → is_straight a ≡ true → hoisted ks a o ≡ a ∷ []
hoisted_alone ks s.Nothing o e = absurd (cc e)
hoisted_alone ks (s.Do x) o e = refl
hoisted_alone ks (s.Load to z r off disp) o e = refl
hoisted_alone ks (s.Store z r off disp from) o e = refl
hoisted_alone ks (s.LoadBy to z r off disp) o e = refl
hoisted_alone ks (s.StoreBy z r off disp from) o e = refl
hoisted_alone ks (s.Aim z r off disp) o e = refl
hoisted_alone ks (s.Leave z) o e = refl
hoisted_alone ks (s.Loose z) o e = refl
hoisted_alone ks (s.Call to f args) o e = refl
hoisted_alone ks (s.Fail a) o e = refl
hoisted_alone ks (s.Then a b) o e = absurd (cc e)
hoisted_alone ks (s.Choose c a b) o e = absurd (cc e)
hoisted_alone ks (s.Loop a c b) o e = absurd (cc e)
hoisted_alone ks (s.Block a) o e = absurd (cc e)
hoisted_alone ks (s.Exit k) o e = refl

pub served_alone : (ks : List Kind) (a : s.Code) (o : List ℕ) → is_straight a ≡ true → most_served ks a o ≡ 0
served_alone ks s.Nothing o e = absurd (cc e)
served_alone ks (s.Do x) o e = refl
served_alone ks (s.Load to z r off disp) o e = refl
served_alone ks (s.Store z r off disp from) o e = refl
served_alone ks (s.LoadBy to z r off disp) o e = refl
served_alone ks (s.StoreBy z r off disp from) o e = refl
served_alone ks (s.Aim z r off disp) o e = refl
served_alone ks (s.Leave z) o e = refl
served_alone ks (s.Loose z) o e = refl
served_alone ks (s.Call to f args) o e = refl
served_alone ks (s.Fail a) o e = refl
served_alone ks (s.Then a b) o e = absurd (cc e)
served_alone ks (s.Choose c a b) o e = absurd (cc e)
served_alone ks (s.Loop a c b) o e = absurd (cc e)
served_alone ks (s.Block a) o e = absurd (cc e)
served_alone ks (s.Exit k) o e = refl

-- code in a choice, a loop or a block before which no scope is open
pub whole_inside : (ks : List Kind) (a : s.Code) (o : List ℕ) → o ≡ [] → in_order (hoisted ks a o) ≡ inside o a (hoisted ks a [])
whole_inside ks a o e = ap (λ (x : List ℕ). in_order (hoisted ks a x)) e ∙ sym (ap (λ (x : List ℕ). inside x a (hoisted ks a [])) e)
