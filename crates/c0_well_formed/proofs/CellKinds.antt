-- The kinds of registers and of cells name layouts that are there.
use Rattle.std.proofs.Common.{◌≡◌, ℕ, zero, suc, ◌+◌, ◌<◌, ◌≤◌, Bool, true, false, cond, List, [], ◌∷◌, ◌++◌, length, map, get_or, refl, arith}
use Rattle.std.specs.Prelude.{◌&&◌, nat_lt, All}
use Rattle.std.proofs.lemmas.Bool.{lt-ltb, ltb-true}
use Rattle.std.proofs.lemmas.List.{length-append}
use Rattle.c0_typed.specs.Trees.{Ty, VoidTy, IntTy, BoolTy, CharTy, TextTy, StructTy, PointerTy, ArrayTy}
use Rattle.code_form.specs.declared.form.Kind.{Kind}
use Rattle.code_form.specs.declared.form.Kind.TheVariants as kind
use Rattle.lower_tables.specs.Gathered.{all_learned, learned, with_kind}
use Rattle.lower_tables.specs.Kinds.{cell_kinds, field_kinds, kind_of, layout_number, position, single_layout, struct_layouts}
use Rattle.lower.proofs.Registers.{and_true}
use Rattle.scope_verifier_laws.specs.Numbers.{is_cell_kind, is_value, names_layout}
use Rattle.c0_well_formed.proofs.Tests.{both_true}

-- a kind of values that names one of so many layouts
abbrev pub IsCellKind : ℕ → Kind → Type 0
IsCellKind count k = is_cell_kind count k ≡ true

-- ---- lists

-- each element is so, one by one
abbrev pub Each : {A : Type 0} → (A → Type 0) → List A → Type 0
Each Q [] = Unit {0}
Each Q (x ∷ xs) = Q x × Each Q xs

pub each_all : {A : Type 0} (Q : A → Type 0) (xs : List A) → Each Q xs → All Q xs
each_all Q [] h i d l = absurd (let q : ⊥ = omega (arith, l) in q)
each_all Q (x ∷ xs) h zero d l = h.0
each_all Q (x ∷ xs) h (suc i) d l = each_all Q xs h.1 i d (omega (arith, l))

pub each_append : {A : Type 0} (Q : A → Type 0) (xs ys : List A) → Each Q xs → Each Q ys → Each Q (xs ++ ys)
each_append Q [] ys h k = k
each_append Q (x ∷ xs) ys h k = (h.0, each_append Q xs ys h.1 k)

pub each_as : {A : Type 0} (Q R : A → Type 0) → ((x : A) → Q x → R x) → (xs : List A) → Each Q xs → Each R xs
each_as Q R go [] h = tt
each_as Q R go (x ∷ xs) h = (go x h.0, each_as Q R go xs h.1)

each_at : {A : Type 0} (Q : A → Type 0) (xs : List A) (i : ℕ) (d : A) → Each Q xs → Q d → Q (get_or xs i d)
each_at Q [] i d h k = k
each_at Q (x ∷ xs) zero d h k = h.0
each_at Q (x ∷ xs) (suc i) d h k = each_at Q xs i d h.1 k

-- ---- more layouts

more_there : (a b l : ℕ) → a ≤ b → nat_lt l a ≡ true → nat_lt l b ≡ true
more_there a b l le h = let q : l < a = ltb-true l a h in lt-ltb l b (omega arith)

pub named_more : (a b : ℕ) → a ≤ b → (k : Kind) → names_layout a k ≡ true → names_layout b k ≡ true
named_more a b le (kind.Ptr l) h = more_there a b l le h
named_more a b le (kind.Arr l) h = more_there a b l le h
named_more a b le (kind.Off l) h = more_there a b l le h
named_more a b le _ h = refl

cell_more : (a b : ℕ) → a ≤ b → (k : Kind) → IsCellKind a k → IsCellKind b k
cell_more a b le k h =
    let both = both_true (names_layout a k) (is_value k) h in
    and_true (names_layout b k) (is_value k) (named_more a b le k both.0) both.1

-- ---- numbers of layouts

-- a number that is n, or comes from a place of the list
chosen : (n place len : ℕ) (b : Bool) → nat_lt place len ≡ b → cond b (suc (n + place)) n < suc (n + len)
chosen n place len true e = let q : place < len = ltb-true place len e in omega arith
chosen n place len false e = omega arith

single_low : (n : ℕ) (singles : List Kind) (k : Kind) → single_layout n singles k < suc (n + length singles)
single_low n singles k = chosen n (position k singles) (length singles) (nat_lt (position k singles) (length singles)) refl

struct_low : (n j len : ℕ) (b : Bool) → nat_lt j n ≡ b → cond b j n < suc (n + len)
struct_low n j len true e = let q : j < n = ltb-true j n e in omega arith
struct_low n j len false e = omega arith

pub number_low : (n : ℕ) (singles : List Kind) (ty : Ty) → layout_number n singles ty < suc (n + length singles)
number_low n singles VoidTy = omega arith
number_low n singles (StructTy j) = struct_low n j (length singles) (nat_lt j n) refl
number_low n singles IntTy = single_low n singles kind.Int
number_low n singles BoolTy = single_low n singles kind.Bool
number_low n singles CharTy = single_low n singles kind.Char
number_low n singles TextTy = single_low n singles kind.Text
number_low n singles (PointerTy ty) = single_low n singles (kind.Ptr (layout_number n singles ty))
number_low n singles (ArrayTy ty) = single_low n singles (kind.Arr (layout_number n singles ty))

pub number_named : (n : ℕ) (singles : List Kind) (ty : Ty) → nat_lt (layout_number n singles ty) (suc (n + length singles)) ≡ true
number_named n singles ty = lt-ltb (layout_number n singles ty) (suc (n + length singles)) (number_low n singles ty)

-- so is a pointer to a value of a type, and an array of such
reference_good : (n : ℕ) (singles : List Kind) (ty : Ty) → (nat_lt (layout_number n singles ty) (suc (n + length singles)) && true) ≡ true
reference_good n singles ty = and_true _ true (number_named n singles ty) refl

-- the kind of a value of a type
pub kind_good : (n : ℕ) (singles : List Kind) (ty : Ty) → IsCellKind (suc (n + length singles)) (kind_of n singles ty)
kind_good n singles VoidTy = refl
kind_good n singles IntTy = refl
kind_good n singles BoolTy = refl
kind_good n singles CharTy = refl
kind_good n singles TextTy = refl
kind_good n singles (StructTy j) = refl
kind_good n singles (PointerTy ty) = reference_good n singles ty
kind_good n singles (ArrayTy ty) = reference_good n singles ty

-- ... names a layout that is there
pub kind_named : (n : ℕ) (singles : List Kind) (ty : Ty) → names_layout (suc (n + length singles)) (kind_of n singles ty) ≡ true
kind_named n singles ty = (both_true (names_layout (suc (n + length singles)) (kind_of n singles ty)) (is_value (kind_of n singles ty)) (kind_good n singles ty)).0

-- ---- cells of types

module _ (n : ℕ) (singles : List Kind) where
  abbrev Good : Kind → Type 0
  Good k = IsCellKind (suc (n + length singles)) k

  cells_good : (before : List (List Kind)) (ty : Ty) → Each (Each Good) before → Each Good (cell_kinds n singles before ty)
  cells_good before VoidTy h = tt
  cells_good before (StructTy j) h = each_at (Each Good) before j [] h tt
  cells_good before IntTy h = (refl, tt)
  cells_good before BoolTy h = (refl, tt)
  cells_good before CharTy h = (refl, tt)
  cells_good before TextTy h = (refl, tt)
  cells_good before (PointerTy ty) h = (reference_good n singles ty, tt)
  cells_good before (ArrayTy ty) h = (reference_good n singles ty, tt)

  fields_good : (before : List (List Kind)) (ts : List Ty) → Each (Each Good) before → Each Good (field_kinds n singles before ts)
  fields_good before [] h = tt
  fields_good before (ty ∷ ts) h = each_append Good (cell_kinds n singles before ty) (field_kinds n singles before ts) (cells_good before ty h) (fields_good before ts h)

  pub structs_good : (before : List (List Kind)) (rest : List (List Ty)) → Each (Each Good) before → Each (Each Good) (struct_layouts n singles before rest)
  structs_good before [] h = h
  structs_good before (ts ∷ rest) h = structs_good (before ++ field_kinds n singles before ts ∷ []) rest (each_append (Each Good) before (field_kinds n singles before ts ∷ []) h (fields_good before ts h, tt))

  pub singles_good : (ks : List Kind) → Each Good ks → Each (Each Good) (map (λ k. k ∷ []) ks)
  singles_good [] h = tt
  singles_good (k ∷ ks) h = ((h.0, tt), singles_good ks h.1)

-- ---- kinds that are learned

-- each kind of the list names a layout that the list's own length allows
abbrev pub Sound : ℕ → List Kind → Type 0
Sound n ks = Each (IsCellKind (suc (n + length ks))) ks

with_sound : (n : ℕ) (ks : List Kind) (k : Kind) → Sound n ks → IsCellKind (suc (n + length ks)) k → Sound n (with_kind k ks)
with_sound n ks k h g = by (nat_lt (position k ks) (length ks))
  where
    longer : suc (n + length ks) ≤ suc (n + length (ks ++ k ∷ []))
    longer = let q = length-append ks (k ∷ []) in omega (arith, q)

    by : (b : Bool) → Sound n (cond b ks (ks ++ k ∷ []))
    by true = h
    by false =
        each_append (IsCellKind (suc (n + length (ks ++ k ∷ [])))) ks (k ∷ [])
        (each_as (IsCellKind (suc (n + length ks))) (IsCellKind (suc (n + length (ks ++ k ∷ [])))) (cell_more (suc (n + length ks)) (suc (n + length (ks ++ k ∷ []))) longer) ks h)
        (cell_more (suc (n + length ks)) (suc (n + length (ks ++ k ∷ []))) longer k g, tt)

learned_sound : (n : ℕ) (ks : List Kind) (ty : Ty) → Sound n ks → Sound n (learned n ks ty)
learned_sound n ks VoidTy h = h
learned_sound n ks (StructTy j) h = h
learned_sound n ks IntTy h = with_sound n ks kind.Int h refl
learned_sound n ks BoolTy h = with_sound n ks kind.Bool h refl
learned_sound n ks CharTy h = with_sound n ks kind.Char h refl
learned_sound n ks TextTy h = with_sound n ks kind.Text h refl
learned_sound n ks (PointerTy ty) h = with_sound n (learned n ks ty) (kind.Ptr (layout_number n (learned n ks ty) ty)) (learned_sound n ks ty h) (reference_good n (learned n ks ty) ty)
learned_sound n ks (ArrayTy ty) h = with_sound n (learned n ks ty) (kind.Arr (layout_number n (learned n ks ty) ty)) (learned_sound n ks ty h) (reference_good n (learned n ks ty) ty)

pub all_sound : (n : ℕ) (ks : List Kind) (ts : List Ty) → Sound n ks → Sound n (all_learned n ks ts)
all_sound n ks [] h = h
all_sound n ks (ty ∷ rest) h = all_sound n (learned n ks ty) rest (learned_sound n ks ty h)
