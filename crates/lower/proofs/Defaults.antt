-- What fresh memory holds is coded by 0.
use Rattle.std.proofs.Common.{◌≡◌, ◌⊎◌, inl, inr, ℕ, zero, suc, ◌+◌, ◌*◌, List, [], ◌∷◌, ◌++◌, length, get_or, refl, sym, ap, ◌∙◌, subst, arith, Some}
use Rattle.std.specs.Prelude.{slice_get}
use Rattle.std.proofs.lemmas.List.{length-append}
use Rattle.c0_typed.specs.Values.{Value, Void, Tree, Leaf, Node, copies}
use Rattle.c0_typed.specs.Trees.{Ty, VoidTy, IntTy, BoolTy, CharTy, TextTy, StructTy, PointerTy, ArrayTy}
use Rattle.c0_typed.specs.Layouts.{flat, flats}
use Rattle.c0_typed.specs.Meaning.{blank, default, fields, struct_defaults}
use Rattle.code_form.specs.Form.{Head}
use Rattle.lower.specs.Coded.{Coded}
use Rattle.lower.proofs.Lists.{last_or}

-- 0 stands for each of these values
abbrev pub AreZero : Head → List Value → Type 0
AreZero H vs = (x : ℕ) (v : Value) → slice_get vs x ≡ Some v → Coded H v 0

-- it does for each value of each of these trees
abbrev AllZero : Head → List Tree → Type 0
AllZero H ds = (k : ℕ) (a : Tree) → slice_get ds k ≡ Some a → AreZero H (flat a)

one_zero : (H : Head) (v : Value) → Coded H v 0 → AreZero H (v ∷ [])
one_zero H v c zero w e = let same : v ≡ w = cc e in subst (λ z. Coded H z 0) same c
one_zero H v c (suc x) w e = absurd (cc e)

both_zero : (H : Head) (vs ws : List Value) → AreZero H vs → AreZero H ws → AreZero H (vs ++ ws)
both_zero H [] ws f g x v e = g x v e
both_zero H (u ∷ vs) ws f g zero v e = f zero v e
both_zero H (u ∷ vs) ws f g (suc x) v e = both_zero H vs ws (λ y. f (suc y)) g x v e

struct_zero : (H : Head) (ds : List Tree) (k : ℕ) → AllZero H ds → AreZero H (flat (get_or ds k (Leaf Void)))
struct_zero H [] k f = one_zero H Void tt
struct_zero H (a ∷ ds) zero f = f zero a refl
struct_zero H (a ∷ ds) (suc k) f = struct_zero H ds k (λ j. f (suc j))

default_zero : (H : Head) (ds : List Tree) (t : Ty) → AllZero H ds → AreZero H (flat (default ds t))
default_zero H ds VoidTy f = one_zero H _ tt
default_zero H ds IntTy f = one_zero H _ refl
default_zero H ds BoolTy f = one_zero H _ refl
default_zero H ds CharTy f = one_zero H _ refl
default_zero H ds TextTy f = one_zero H _ refl
default_zero H ds (StructTy k) f = struct_zero H ds k f
default_zero H ds (PointerTy t) f = one_zero H _ refl
default_zero H ds (ArrayTy t) f = one_zero H _ refl

fields_zero : (H : Head) (ds : List Tree) (ts : List Ty) → AllZero H ds → AreZero H (flats (fields ds ts))
fields_zero H ds [] f = λ x v e. absurd (cc e)
fields_zero H ds (t ∷ ts) f = both_zero H (flat (default ds t)) (flats (fields ds ts)) (default_zero H ds t f) (fields_zero H ds ts f)

structs_zero : (H : Head) (ds : List Tree) (rest : List (List Ty)) → AllZero H ds → AllZero H (struct_defaults ds rest)
structs_zero H ds [] f = f
structs_zero H ds (ts ∷ rest) f = structs_zero H (ds ++ new ∷ []) rest (λ k a e. at k a (last_or ds new k a e))
  where
    new : Tree
    new = Node (fields ds ts)

    at : (k : ℕ) (a : Tree) → ((slice_get ds k ≡ Some a) ⊎ ((k ≡ length ds) × (a ≡ Node (fields ds ts)))) → AreZero H (flat a)
    at k a (inl z) = f k a z
    at k a (inr z) = subst (λ b. AreZero H (flat b)) (sym z.1) (fields_zero H ds ts f)

-- fresh memory of a type
pub default_coded : (H : Head) (structs : List (List Ty)) (t : Ty) → AreZero H (flat (default (struct_defaults [] structs) t))
default_coded H structs t = default_zero H (struct_defaults [] structs) t (structs_zero H [] structs (λ k a e. absurd (cc e)))

-- fresh memory of an array
pub copies_coded : (H : Head) (n : ℕ) (a : Tree) → AreZero H (flat a) → AreZero H (flats (copies n a))
copies_coded H zero a f = λ x v e. absurd (cc e)
copies_coded H (suc n) a f = both_zero H (flat a) (flats (copies n a)) f (copies_coded H n a f)

pub copies_size : (n : ℕ) (a : Tree) → length (flats (copies n a)) ≡ n * length (flat a)
copies_size zero a = omega arith
copies_size (suc n) a =
    length-append (flat a) (flats (copies n a)) ∙ ap (λ z. length (flat a) + z) (copies_size n a) ∙ (let z : length (flat a) + n * length (flat a) ≡ suc n * length (flat a) = omega arith in z)

-- what a local holds before anything is assigned to it
pub blank_coded : (H : Head) (t : Ty) → Coded H (blank t) 0
blank_coded H VoidTy = tt
blank_coded H IntTy = refl
blank_coded H BoolTy = refl
blank_coded H CharTy = refl
blank_coded H TextTy = refl
blank_coded H (StructTy k) = tt
blank_coded H (PointerTy t) = refl
blank_coded H (ArrayTy t) = refl
