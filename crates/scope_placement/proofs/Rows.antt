-- The parts of a sequence as a list.
use Rattle.std.proofs.Common.{◌≡◌, ℕ, max, true, Option, List, [], ◌∷◌, ◌++◌, refl, sym, ap, ◌∙◌, arith, append_assoc, rules}
use Rattle.std.specs.declared.vec.Vec.{Vec}
use Rattle.std.specs.declared.alloc.Global.{Global}
use Rattle.code_form.specs.declared.form.Operation.{Operation}
use Rattle.middle_form.specs.Form as m
use Rattle.middle_form.specs.Views.{code_of, row_of, sequence_of}
use Rattle.middle_form.specs.declared.form.Code.{Code, Row_of-Code, end_of-Code, more_of-Code, items-the_row-Code, Sequence', Do, Load, Store, Call, Fail, Choose', Loop', Block', Exit, the_lemmas as code_lemmas}
use Rattle.middle_form.specs.declared.form.Code.TheViews.{Sequence}
use Rattle.middle_form.specs.Scoped as s
use Rattle.middle_form.specs.declared.scoped.ScopedCode.{ScopedCode}
use Rattle.scoped_building.specs.Building.{codes, in_order}
use Rattle.scope_placement.specs.Building.{is_straight}
use Rattle.scope_placement.specs.Placed.{Open, leaves, most_open, open_behind, placed, whole}

parts_row : {n : _} (k : Row_of-Code n) → row_of k ≡ sequence_of (items-the_row-Code n k)
parts_row end_of-Code = refl
parts_row (more_of-Code a rest) = ap (m.Then (code_of a)) (parts_row rest)

pub sequence_is : (all : Vec Code Global) → code_of (Sequence all) ≡ sequence_of all.items
sequence_is all = search (rules, code_lemmas, parts_row)

-- ---- code in order, of which the first part is placed

pub rest_parts : (before behind : List ScopedCode) (x : Code) (all rest : List Code) (rs qs : Open) (whole : List s.Code)
    → all ≡ x ∷ rest → codes behind ≡ codes before ++ placed (code_of x) rs → qs ≡ open_behind (code_of x) rs
    → codes before ++ placed (sequence_of all) rs ≡ whole → codes behind ++ placed (sequence_of rest) qs ≡ whole
rest_parts before behind x all rest rs qs whole e p o h =
    ap (λ z. z ++ placed (sequence_of rest) qs) p
    ∙ (ap (λ q. (codes before ++ placed (code_of x) rs) ++ placed (sequence_of rest) q) o
    ∙ (append_assoc (codes before) (placed (code_of x) rs) (placed (sequence_of rest) (open_behind (code_of x) rs))
    ∙ (ap (λ l. codes before ++ placed (sequence_of l) rs) (sym e) ∙ h)))

pub rest_open : (x : Code) (all rest : List Code) (rs qs whole : Open) → all ≡ x ∷ rest → qs ≡ open_behind (code_of x) rs → open_behind (sequence_of all) rs ≡ whole → open_behind (sequence_of rest) qs ≡ whole
rest_open x all rest rs qs whole e o h = ap (open_behind (sequence_of rest)) o ∙ (ap (λ l. open_behind (sequence_of l) rs) (sym e) ∙ h)

pub rest_most : (before behind : ℕ) (x : Code) (all rest : List Code) (rs qs : Open) (whole : ℕ)
    → all ≡ x ∷ rest → behind ≡ max before (most_open (code_of x) rs) → qs ≡ open_behind (code_of x) rs
    → max before (most_open (sequence_of all) rs) ≡ whole → max behind (most_open (sequence_of rest) qs) ≡ whole
rest_most before behind x all rest rs qs whole e m o h =
    let first : most_open (sequence_of all) rs ≡ max (most_open (code_of x) rs) (most_open (sequence_of rest) (open_behind (code_of x) rs)) = ap (λ l. most_open (sequence_of l) rs) e in
    let last : most_open (sequence_of rest) qs ≡ most_open (sequence_of rest) (open_behind (code_of x) rs) = ap (most_open (sequence_of rest)) o in
    omega (arith, first, last, m, h)

-- ---- a whole: the parts that come in place of code, and the leaves behind them

pub whole_is : (none before behind : List ScopedCode) (rs qs : Open) (k a : m.Code) → none ≡ [] → rs ≡ [] → k ≡ a
    → codes before ≡ codes none ++ placed k rs → qs ≡ open_behind k rs → codes behind ≡ codes before ++ leaves qs → in_order (codes behind) ≡ whole a
whole_is none before behind rs qs k a n r e p o l =
    ap in_order (l ∙ (ap (λ z. z ++ leaves qs) (p ∙ ap (λ xs. codes xs ++ placed k rs) n)
    ∙ (ap (λ q. placed k rs ++ leaves q) o ∙ (ap (λ q. placed k q ++ leaves (open_behind k q)) r ∙ ap (λ c. placed c [] ++ leaves (open_behind c [])) e))))

-- ---- code of no straight form is not straight

row_is_not_straight : {n : _} (k : Row_of-Code n) → is_straight (row_of k) ≡ true → ⊥
row_is_not_straight end_of-Code e = cc e
row_is_not_straight (more_of-Code a rest) e = cc e

pub not_straight : {P : Type 0} (a : Code) → ((o : Operation) → a ≡ Do o → ⊥) → ((to r : ℕ) (off : Option ℕ) (disp : ℕ) → a ≡ Load to r off disp → ⊥) → ((r : ℕ) (off : Option ℕ) (disp from : ℕ) → a ≡ Store r off disp from → ⊥)
    → ((to : Option ℕ) (f : ℕ) (args : Vec ℕ Global) → a ≡ Call to f args → ⊥) → ((t : ℕ) → a ≡ Fail t → ⊥) → ((k : ℕ) → a ≡ Exit k → ⊥) → is_straight (code_of a) ≡ true → P
not_straight (Sequence' shape all) d f k i t x e = absurd (row_is_not_straight all e)
not_straight (Do o) d f k i t x e = absurd (d o refl)
not_straight (Load to r off disp) d f k i t x e = absurd (f to r off disp refl)
not_straight (Store r off disp from) d f k i t x e = absurd (k r off disp from refl)
not_straight (Call to g args) d f k i t x e = absurd (i to g args refl)
not_straight (Fail a) d f k i t x e = absurd (t a refl)
not_straight (Choose' a p b q c) d f k i t x e = absurd (cc e)
not_straight (Loop' p test a q body) d f k i t x e = absurd (cc e)
not_straight (Block' p a) d f k i t x e = absurd (cc e)
not_straight (Exit j) d f k i t x e = absurd (x j refl)
