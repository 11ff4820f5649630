-- Where the values of expressions stand, and of which kinds they are.
use Rattle.std.proofs.Common.{◌≡◌, ◌≢◌, ℕ, zero, suc, ◌+◌, ◌<◌, ◌≤◌, Bool, true, false, List, [], ◌∷◌, ◌++◌, length, Option, Some, None, refl, sym, ap, ◌∙◌, subst, arith, cond}
use Rattle.std.specs.Prelude.{slice_get, slice_index, map}
use Rattle.std.proofs.lemmas.Option.{slice_get_within}
use Rattle.c0_typed.specs.Values as v
use Rattle.c0_typed.specs.Trees as t
use Rattle.c0_typed.specs.Trees.{Program, Ty, VoidTy, IntTy, BoolTy}
use Rattle.c0_typed.specs.Typing.{Has, HasAll, IsSmall, unary_type}
use Rattle.c0_typed.specs.Views.{constant_of, exp_of, function_of, program_of, row_of, texts_of, type_of, unary_of}
use Rattle.c0_typed.specs.declared.tree.Constant.{Constant as ConstantValue}
use Rattle.c0_typed.specs.declared.tree.Constant.TheVariants as c
use Rattle.c0_typed.specs.declared.tree.UnaryOperator.{UnaryOperator}
use Rattle.c0_typed.specs.declared.tree.UnaryOperator.TheVariants as u
use Rattle.c0_typed.specs.declared.tree.Expression.{Expression, Row_of-Expression, end_of-Expression, more_of-Expression, At', Constant, Null, Local, Unary', Binary', Compare', And', Or', Choose', Call', Print', Load', Alloc, AllocArray', Length'}
use Rattle.c0_typed.specs.declared.tree.Function.{Function}
use Rattle.c0_typed.specs.declared.tree.Typed.{Typed}
use Rattle.code_form.specs.declared.form.Kind.{Kind}
use Rattle.code_form.specs.declared.form.Kind.TheVariants as kind
use Rattle.lower_tables.specs.Kinds.{kind_of}
use Rattle.lower_expressions.specs.Expressions.{constant_kind, exp_kinds, local_register, row_at, row_kinds, type_given, unary_kind, value_at}
use Rattle.lower.proofs.Registers.{At, at_head, at_left, at_right}

-- the function that stands there in the text
pub function_there : (texts : List (List ℕ)) (fs : List Function) (k : ℕ) (g : t.Function) → slice_get (map (function_of texts) fs) k ≡ Some g → (h : Function) × (slice_get fs k ≡ Some h) × (g ≡ function_of texts h)
function_there texts [] k g e = absurd (cc e)
function_there texts (h ∷ fs) zero g e = (h, refl, sym (cc e))
function_there texts (h ∷ fs) (suc k) g e = function_there texts fs k g e

module _ (typed : Typed) (singles : List Kind) (types : List Ty) (locals : ℕ) (ks : List Kind) where
  abbrev p : Program
  p = program_of typed

  abbrev n : ℕ
  n = length p.structs

  abbrev kinds : Expression → List Kind
  kinds e = exp_kinds p.structs singles (texts_of typed) typed.functions.items typed.main e

  abbrev kinds_row : {k : _} → Row_of-Expression k → List Kind
  kinds_row es = row_kinds p.structs singles (texts_of typed) typed.functions.items typed.main es

  abbrev at_row : {k : _} → Row_of-Expression k → ℕ → List ℕ
  at_row es d = row_at p.structs singles (texts_of typed) typed.functions.items typed.main locals es d

  pub given_type : (fs : List Function) (k : ℕ) (g : t.Function) → slice_get (map (function_of (texts_of typed)) fs) k ≡ Some g → type_given p.structs singles (texts_of typed) typed.functions.items typed.main fs k ≡ g.result
  given_type [] k g e = absurd (cc e)
  given_type (h ∷ fs) zero g e = let q : function_of (texts_of typed) h ≡ g = cc e in ap (λ (z : t.Function). z.result) q
  given_type (h ∷ fs) (suc k) g e = given_type fs k g e

  -- locals have registers of their kinds
  abbrev pub LocalsAt : Type 0
  LocalsAt = (x : ℕ) (t : Ty) → slice_get types x ≡ Some t → slice_get ks (local_register locals x) ≡ Some (kind_of n singles t)

  constant_kind_is : (x : ConstantValue) (t : Ty) → Has p types (exp_of (texts_of typed) (Constant x)) t → constant_kind x ≡ kind_of n singles t
  constant_kind_is (c.Number z) t h = sym (ap (kind_of n singles) h.0)
  constant_kind_is (c.Truth b) t h = sym (ap (kind_of n singles) h)
  constant_kind_is (c.Letter x) t h = sym (ap (kind_of n singles) h.0)
  constant_kind_is (c.Text k) t h = sym (ap (kind_of n singles) h.0)

  unary_kind_is : (o : UnaryOperator) → unary_kind o ≡ kind_of n singles (unary_type (unary_of o))
  unary_kind_is u.Negate = refl
  unary_kind_is u.Complement = refl
  unary_kind_is u.Not = refl

  -- registers of arguments have the kinds of their types
  abbrev pub AreOf : List Ty → List ℕ → Type 0
  AreOf [] [] = Unit {0}
  AreOf (t ∷ ts) (r ∷ rs) = (slice_get ks r ≡ Some (kind_of n singles t)) × AreOf ts rs
  AreOf _ _ = ⊥

  module _ (locals_at : LocalsAt) where
    as_kind : (d : ℕ) (k : Kind) (t u : Ty) (rest : List Kind) → At ks d (k ∷ rest) → k ≡ kind_of n singles u → t ≡ u → slice_get ks d ≡ Some (kind_of n singles t)
    as_kind d k t u rest a e q = at_head ks d k rest a ∙ ap Some (e ∙ ap (kind_of n singles) (sym q))

    -- the register of an expression's value has the kind of its type
    pub value_kind : (e : Expression) (t : Ty) (d : ℕ) → At ks d (kinds e) → Has p types (exp_of (texts_of typed) e) t → slice_get ks (value_at locals e d) ≡ Some (kind_of n singles t)
    value_kind (At' here q e) t d a h = value_kind e t d a h
    value_kind (Constant x) t d a h = as_kind d (constant_kind x) t t [] a (constant_kind_is x t h) refl
    value_kind (Null ty) t d a h = as_kind d _ t _ [] a refl h
    value_kind (Local x) t d a h = locals_at x t h
    value_kind (Unary' o q b) t d a h = as_kind d _ t _ (kinds b) a (unary_kind_is o) h.0
    value_kind (Binary' o q b r e) t d a h = as_kind d _ t IntTy (kinds b ++ kinds e) a refl h.0
    value_kind (Compare' ty o q b r e) t d a h = as_kind d _ t BoolTy (kinds b ++ kinds e) a refl h.0
    value_kind (And' q b r e) t d a h = as_kind d _ t BoolTy (kinds b ++ kinds e) a refl h.0
    value_kind (Or' q b r e) t d a h = as_kind d _ t BoolTy (kinds b ++ kinds e) a refl h.0
    value_kind (Choose' ty q b r e s z) t d a h = as_kind d _ t _ (kinds b ++ (kinds e ++ kinds z)) a refl h.0
    value_kind (Call' f shape es) t d a h = as_kind d _ t h.0.result (kinds_row es) a (ap (kind_of n singles) (given_type typed.functions.items f h.0 h.1)) h.2
    value_kind (Print' out shape es) t d a h = as_kind d _ t VoidTy (kinds_row es) a refl h.0
    value_kind (Load' ty q pl) t d a h = as_kind d _ t _ _ a refl h.0
    value_kind (Alloc ty) t d a h = as_kind d _ t _ [] a refl h.0
    value_kind (AllocArray' ty q b) t d a h = as_kind d _ t _ (kinds b) a refl h.0
    value_kind (Length' ty q b) t d a h = as_kind d _ t IntTy (kinds b) a refl h.0

    pub row_of_kinds : {k : _} (es : Row_of-Expression k) (ts : List Ty) (d : ℕ) → At ks d (kinds_row es) → HasAll p types (row_of (texts_of typed) es) ts → AreOf ts (at_row es d)
    row_of_kinds end_of-Expression [] d a h = tt
    row_of_kinds end_of-Expression (t ∷ ts) d a h = absurd h
    row_of_kinds (more_of-Expression e rest) [] d a h = absurd h
    row_of_kinds (more_of-Expression e rest) (t ∷ ts) d a h =
        (value_kind e t d (at_left ks d (kinds e) (kinds_row rest) a) h.0, row_of_kinds rest ts (d + length (kinds e)) (at_right ks d (kinds e) (kinds_row rest) a) h.1)

  module _ (long : length types ≡ suc locals) where
    pub local_there : (x : ℕ) (t : Ty) → slice_get types x ≡ Some t → x ≤ locals
    local_there x t h = let l = slice_get_within types x t h in let q : x < suc locals = subst (λ z. x < z) long l in omega arith

    low : (x : ℕ) → x ≤ locals → local_register locals x ≤ locals
    low zero l = omega arith
    low (suc x) l = omega arith

    above : (d m : ℕ) → d < d + suc m
    above d m = omega arith

    -- a value stands below the registers of what follows
    pub value_before : (e : Expression) (t : Ty) (d : ℕ) → suc locals ≤ d → Has p types (exp_of (texts_of typed) e) t → value_at locals e d < d + length (kinds e)
    value_before (At' here q e) t d l h = value_before e t d l h
    value_before (Local x) t d l h = let q = low x (local_there x t h) in omega arith
    value_before (Constant x) t d l h = above d _
    value_before (Null ty) t d l h = above d _
    value_before (Unary' o q b) t d l h = above d _
    value_before (Binary' o q b r e) t d l h = above d _
    value_before (Compare' ty o q b r e) t d l h = above d _
    value_before (And' q b r e) t d l h = above d _
    value_before (Or' q b r e) t d l h = above d _
    value_before (Choose' ty q b r e s z) t d l h = above d _
    value_before (Call' f shape es) t d l h = above d _
    value_before (Print' out shape es) t d l h = above d _
    value_before (Load' ty q pl) t d l h = above d _
    value_before (Alloc ty) t d l h = above d _
    value_before (AllocArray' ty q b) t d l h = above d _
    value_before (Length' ty q b) t d l h = above d _

    -- and it is no register that is neither a local's nor one of its own
    pub value_apart : (e : Expression) (t : Ty) (d b : ℕ) → suc locals ≤ d → d < b → Has p types (exp_of (texts_of typed) e) t → value_at locals e b ≢ d
    value_apart (At' here q e) t d b l lt h = value_apart e t d b l lt h
    value_apart (Local x) t d b l lt h = let q = low x (local_there x t h) in omega arith
    value_apart (Constant x) t d b l lt h = omega arith
    value_apart (Null ty) t d b l lt h = omega arith
    value_apart (Unary' o q x) t d b l lt h = omega arith
    value_apart (Binary' o q x r e) t d b l lt h = omega arith
    value_apart (Compare' ty o q x r e) t d b l lt h = omega arith
    value_apart (And' q x r e) t d b l lt h = omega arith
    value_apart (Or' q x r e) t d b l lt h = omega arith
    value_apart (Choose' ty q x r e s z) t d b l lt h = omega arith
    value_apart (Call' f shape es) t d b l lt h = omega arith
    value_apart (Print' out shape es) t d b l lt h = omega arith
    value_apart (Load' ty q pl) t d b l lt h = omega arith
    value_apart (Alloc ty) t d b l lt h = omega arith
    value_apart (AllocArray' ty q x) t d b l lt h = omega arith
    value_apart (Length' ty q x) t d b l lt h = omega arith
