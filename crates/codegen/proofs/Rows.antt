-- The parts of a sequence as a list.
use Rattle.std.proofs.Common.{◌≡◌, ◌<◌, ◌+◌, ℕ, true, refl, Option, List, drop, get_or, length, sym, ap, ◌∙◌}
use Rattle.std.proofs.lemmas.List.{drop_more}
use Rattle.std.specs.declared.vec.Vec.{Vec}
use Rattle.std.specs.declared.alloc.Global.{Global}
use Rattle.code_form.specs.declared.form.Operation.{Operation}
use Rattle.middle_form.specs.Scoped as s
use Rattle.middle_form.specs.ScopedViews.{scoped_code_of, scoped_row_of, scoped_sequence_of}
use Rattle.middle_form.specs.declared.scoped.ScopedCode.{ScopedCode, Row_of-ScopedCode, end_of-ScopedCode, more_of-ScopedCode, Sequence', Do, Load, Store, LoadBy, StoreBy, Aim, Leave, Loose, Call, Fail, Choose', Loop', Block', Exit}
use Rattle.scoped_building.specs.Building.{is_straight}
use Rattle.scoped_building.proofs.Rows.{row_is_not_straight}
use Rattle.codegen.specs.Building.{is_access}

-- a part, and those behind it
pub sequence_at : (all : List ScopedCode) (i : ℕ) (a : ScopedCode) → i < length all → a ≡ get_or all i a → scoped_sequence_of (drop i all) ≡ s.Then (scoped_code_of a) (scoped_sequence_of (drop (i + 1) all))
sequence_at all i a le e = ap scoped_sequence_of (drop_more all i a le) ∙ ap (λ x. s.Then (scoped_code_of x) (scoped_sequence_of (drop (i + 1) all))) (sym e)

row_is_no_access : {n : _} (k : Row_of-ScopedCode n) → is_access (scoped_row_of k) ≡ true → ⊥
row_is_no_access end_of-ScopedCode e = cc e
row_is_no_access (more_of-ScopedCode a rest) e = cc e

-- code that is none of these is no load, store or aim
pub no_access : {P : Type 0} (a : ScopedCode) → ((to z r : ℕ) (off : Option ℕ) (disp : ℕ) → a ≡ Load to z r off disp → ⊥) → ((z r : ℕ) (off : Option ℕ) (disp from : ℕ) → a ≡ Store z r off disp from → ⊥)
    → ((to z r : ℕ) (off : Option ℕ) (disp : ℕ) → a ≡ LoadBy to z r off disp → ⊥) → ((z r : ℕ) (off : Option ℕ) (disp from : ℕ) → a ≡ StoreBy z r off disp from → ⊥) → ((z r : ℕ) (off : Option ℕ) (disp : ℕ) → a ≡ Aim z r off disp → ⊥)
    → is_access (scoped_code_of a) ≡ true → P
no_access (Sequence' shape all) l n k t m e = absurd (row_is_no_access all e)
no_access (Do o) l n k t m e = absurd (cc e)
no_access (Load to z r off disp) l n k t m e = absurd (l to z r off disp refl)
no_access (Store z r off disp from) l n k t m e = absurd (n z r off disp from refl)
no_access (LoadBy to z r off disp) l n k t m e = absurd (k to z r off disp refl)
no_access (StoreBy z r off disp from) l n k t m e = absurd (t z r off disp from refl)
no_access (Aim z r off disp) l n k t m e = absurd (m z r off disp refl)
no_access (Leave z) l n k t m e = absurd (cc e)
no_access (Loose z) l n k t m e = absurd (cc e)
no_access (Call to g args) l n k t m e = absurd (cc e)
no_access (Fail a) l n k t m e = absurd (cc e)
no_access (Choose' a p b q c) l n k t m e = absurd (cc e)
no_access (Loop' p test a q body) l n k t m e = absurd (cc e)
no_access (Block' p a) l n k t m e = absurd (cc e)
no_access (Exit j) l n k t m e = absurd (cc e)

-- straight code that is none of these is a load, a store or an aim
pub straight_access : (a : ScopedCode) → ((o : Operation) → a ≡ Do o → ⊥) → ((z : ℕ) → a ≡ Leave z → ⊥) → ((z : ℕ) → a ≡ Loose z → ⊥) → ((to : Option ℕ) (f : ℕ) (args : Vec ℕ Global) → a ≡ Call to f args → ⊥) → ((t : ℕ) → a ≡ Fail t → ⊥) → ((k : ℕ) → a ≡ Exit k → ⊥)
    → is_straight (scoped_code_of a) ≡ true → is_access (scoped_code_of a) ≡ true
straight_access (Sequence' shape all) d l m i t x e = absurd (row_is_not_straight all e)
straight_access (Do o) d l m i t x e = absurd (d o refl)
straight_access (Load to z r off disp) d l m i t x e = refl
straight_access (Store z r off disp from) d l m i t x e = refl
straight_access (LoadBy to z r off disp) d l m i t x e = refl
straight_access (StoreBy z r off disp from) d l m i t x e = refl
straight_access (Aim z r off disp) d l m i t x e = refl
straight_access (Leave z) d l m i t x e = absurd (l z refl)
straight_access (Loose z) d l m i t x e = absurd (m z refl)
straight_access (Call to g args) d l m i t x e = absurd (i to g args refl)
straight_access (Fail a) d l m i t x e = absurd (t a refl)
straight_access (Choose' a p b q c) d l m i t x e = absurd (cc e)
straight_access (Loop' p test a q body) d l m i t x e = absurd (cc e)
straight_access (Block' p a) d l m i t x e = absurd (cc e)
straight_access (Exit j) d l m i t x e = absurd (x j refl)

-- code of no straight form is not straight
pub not_straight : {P : Type 0} (a : ScopedCode) → ((o : Operation) → a ≡ Do o → ⊥) → ((to z r : ℕ) (off : Option ℕ) (disp : ℕ) → a ≡ Load to z r off disp → ⊥) → ((z r : ℕ) (off : Option ℕ) (disp from : ℕ) → a ≡ Store z r off disp from → ⊥)
    → ((to z r : ℕ) (off : Option ℕ) (disp : ℕ) → a ≡ LoadBy to z r off disp → ⊥) → ((z r : ℕ) (off : Option ℕ) (disp from : ℕ) → a ≡ StoreBy z r off disp from → ⊥) → ((z r : ℕ) (off : Option ℕ) (disp : ℕ) → a ≡ Aim z r off disp → ⊥)
    → ((z : ℕ) → a ≡ Leave z → ⊥) → ((z : ℕ) → a ≡ Loose z → ⊥) → ((to : Option ℕ) (f : ℕ) (args : Vec ℕ Global) → a ≡ Call to f args → ⊥) → ((t : ℕ) → a ≡ Fail t → ⊥) → ((k : ℕ) → a ≡ Exit k → ⊥) → is_straight (scoped_code_of a) ≡ true → P
not_straight a d l n k t m v z i f x e =
    no_access a l n k t m (straight_access a d v z i f x e)
