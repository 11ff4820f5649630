-- The registers that the check of a place names: locals, and those of the place's own code.
use Rattle.std.proofs.Common.{◌≡◌, ℕ, suc, ◌+◌, ◌<◌, ◌≤◌, ◌⊎◌, inl, inr, Bool, true, false, List, ◌++◌, length, Some, refl, sym, subst, arith, eqb-true}
use Rattle.std.specs.Prelude.{◌||◌, ◌==◌, slice_get}
use Rattle.std.proofs.lemmas.List.{length-append}
use Rattle.c0_typed.specs.Trees.{Program, Ty, StructTy, PointerTy, ArrayTy}
use Rattle.c0_typed.specs.Typing.{Has, Holds}
use Rattle.c0_typed.specs.Views.{exp_of, place_of, program_of, texts_of, type_of}
use Rattle.c0_typed.specs.declared.tree.Expression.{Expression, At', Constant, Null, Local, Unary', Binary', Compare', And', Or', Choose', Call', Print', Load', Alloc, AllocArray', Length'}
use Rattle.c0_typed.specs.declared.tree.Place.{Place, Deref', Index', Field'}
use Rattle.c0_typed.specs.declared.tree.Typed.{Typed}
use Rattle.code_form.specs.declared.form.Kind.{Kind}
use Rattle.code_form.specs.declared.form.Fact.{Fact}
use Rattle.lower_expressions.specs.Expressions as parts
use Rattle.lower_expressions.specs.Expressions.{local_register, value_at}
use Rattle.middle_form.specs.Guarded.{names}
use Rattle.c0_well_formed.proofs.GuardedCode.{IsBelow, NoFact}
use Rattle.c0_well_formed.proofs.GuardedExpressions as e

-- the locals of these types stand in the first registers
abbrev pub AreThere : List Ty → ℕ → Type 0
AreThere types locals = (x : ℕ) (ty : Ty) → slice_get types x ≡ Some ty → local_register locals x < suc locals

either_true : (a b : Bool) → (a || b) ≡ true → (a ≡ true) ⊎ (b ≡ true)
either_true true b h = inl refl
either_true false b h = inr h

module _ (typed : Typed) (singles : List Kind) (types : List Ty) (locals : ℕ) (there : AreThere types locals) where
  abbrev p : Program
  p = program_of typed

  abbrev texts : List (List ℕ)
  texts = texts_of typed

  abbrev kinds : Expression → List Kind
  kinds a = parts.exp_kinds p.structs singles (texts_of typed) typed.functions.items typed.main a

  abbrev kinds_place : Place → List Kind
  kinds_place q = parts.place_kinds p.structs singles (texts_of typed) typed.functions.items typed.main q

  abbrev check_at : Place → ℕ → Fact
  check_at q d = e.check_at p.structs singles (texts_of typed) typed.functions.items typed.main locals NoFact q d

  abbrev Near : Place → ℕ → Fact → Type 0
  Near q d = e.Near p.structs singles (texts_of typed) typed.functions.items typed.main locals NoFact q d

  -- a local's, or one of n registers from d on
  abbrev Within : ℕ → ℕ → ℕ → Type 0
  Within d n r = (r < suc locals) ⊎ ((d ≤ r) × (r < d + n))

  own : (d i : ℕ) → Within d (suc i) d
  own d i = inr (omega arith, omega arith)

  wider : (d i e j r : ℕ) → e ≤ d → d + i ≤ e + j → Within d i r → Within e j r
  wider d i e j r h k (inl q) = inl q
  wider d i e j r h k (inr q) = let low : d ≤ r = q.0 in let high : r < d + i = q.1 in inr (omega arith, omega arith)

  value_within : (a : Expression) (ty : Ty) (d : ℕ) → Has p types (exp_of texts a) ty → Within d (length (kinds a)) (value_at locals a d)
  value_within (At' here q e) ty d h = value_within e ty d h
  value_within (Constant x) ty d h = own d 0
  value_within (Null w) ty d h = own d 0
  value_within (Local x) ty d h = inl (there x ty h)
  value_within (Unary' i w a) ty d h = own d _
  value_within (Binary' i w a s b) ty d h = own d _
  value_within (Compare' w i v a s b) ty d h = own d _
  value_within (And' w a s b) ty d h = own d _
  value_within (Or' w a s b) ty d h = own d _
  value_within (Choose' w v a q b s c) ty d h = own d _
  value_within (Call' i shape es) ty d h = own d _
  value_within (Print' out shape es) ty d h = own d _
  value_within (Load' w v q) ty d h = own d _
  value_within (Alloc w) ty d h = own d 0
  value_within (AllocArray' w v a) ty d h = own d _
  value_within (Length' w v a) ty d h = own d _

  place_within : (q : Place) (ty : Ty) (d : ℕ) → Holds p types (place_of texts q) ty → (r : ℕ) → names r (check_at q d) ≡ true → Within d (length (kinds_place q)) r
  place_within (Deref' w v a) ty d h r n =
      subst (Within d (length (kinds a))) (sym (eqb-true r (value_at locals a d) n)) (value_within a (PointerTy (type_of w)) d h.1)
  place_within (Index' w v a s i) ty d h r n = by (either_true (r == d) (r == value_at locals a (suc d)) n)
    where
      by : ((r == d) ≡ true) ⊎ ((r == value_at locals a (suc d)) ≡ true) → Within d (length (kinds_place (Index' w v a s i))) r
      by (inl m) = subst (Within d (length (kinds_place (Index' w v a s i)))) (sym (eqb-true r d m)) (own d _)
      by (inr m) =
          let long : length (kinds a ++ kinds i) ≡ length (kinds a) + length (kinds i) = length-append (kinds a) (kinds i) in
          wider (suc d) (length (kinds a)) d (suc (length (kinds a ++ kinds i))) r (omega arith) (omega (arith, long))
          (subst (Within (suc d) (length (kinds a))) (sym (eqb-true r (value_at locals a (suc d)) m)) (value_within a (ArrayTy (type_of w)) (suc d) h.1))
  place_within (Field' j v q i) ty d h r n = place_within q (StructTy j) d h.0 r n

  -- the check of a place names only registers below those behind the place
  pub near_below : (q : Place) (ty : Ty) (d : ℕ) → locals < d → Holds p types (place_of texts q) ty → (g : Fact) → Near q d g → IsBelow (d + length (kinds_place q)) g
  near_below q ty d l h g (inr z) = absurd z
  near_below q ty d l h g (inl same) = subst (IsBelow (d + length (kinds_place q))) same (λ r n. by r (place_within q ty d h r n))
    where
      by : (r : ℕ) → Within d (length (kinds_place q)) r → r < d + length (kinds_place q)
      by r (inl k) = omega arith
      by r (inr k) = k.1

  -- and none that stands between the locals and the place
  pub near_away : (q : Place) (ty : Ty) (d : ℕ) → locals < d → Holds p types (place_of texts q) ty → (g : Fact) → Near q (suc d) g → names d g ≡ true → ⊥
  near_away q ty d l h g (inr z) n = absurd z
  near_away q ty d l h g (inl same) n = by (place_within q ty (suc d) h d (subst (λ (x : Fact). names d x ≡ true) (sym same) n))
    where
      by : Within (suc d) (length (kinds_place q)) d → ⊥
      by (inl k) = omega arith
      by (inr k) = let m : suc d ≤ d = k.0 in omega arith
