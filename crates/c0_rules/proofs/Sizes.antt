-- The cells of structs, by what fresh memory holds.
use Rattle.std.proofs.Common.{◌≡◌, ℕ, zero, suc, ◌+◌, ◌<◌, ◌≤◌, List, [], ◌∷◌, ◌++◌, length, get_or, refl, ap, ◌∙◌, subst, arith, Some}
use Rattle.std.specs.Prelude.{slice_get}
use Rattle.std.proofs.lemmas.List.{length-append}
use Rattle.c0_typed.specs.Values.{Tree, Leaf, Node, Void}
use Rattle.c0_typed.specs.Trees as t
use Rattle.c0_typed.specs.Typing as ty
use Rattle.c0_typed.specs.Meaning.{default, fields, struct_defaults}

pub length_more : {A : Type 0} (xs : List A) (x : A) → length (xs ++ (x ∷ [])) ≡ suc (length xs)
length_more xs x = length-append xs (x ∷ []) ∙ (let z : length xs + 1 ≡ suc (length xs) = omega arith in z)

-- with one struct more
pub defaults_more : (before : List Tree) (structs : List (List t.Ty)) (ts : List t.Ty)
    → struct_defaults before (structs ++ (ts ∷ [])) ≡ struct_defaults before structs ++ (Node (fields (struct_defaults before structs) ts) ∷ [])
defaults_more before [] ts = refl
defaults_more before (us ∷ structs) ts = defaults_more (before ++ Node (fields before us) ∷ []) structs ts

pub defaults_long : (before : List Tree) (structs : List (List t.Ty)) → length (struct_defaults before structs) ≡ length before + length structs
defaults_long before [] = omega arith
defaults_long before (us ∷ structs) =
    defaults_long (before ++ Node (fields before us) ∷ []) structs ∙ ap (λ n. n + length structs) (length_more before (Node (fields before us)))
    ∙ (let z : suc (length before) + length structs ≡ length before + suc (length structs) = omega arith in z)

pub get_before : (xs ys : List Tree) (k : ℕ) → k < length xs → get_or (xs ++ ys) k (Leaf Void) ≡ get_or xs k (Leaf Void)
get_before [] ys k h = absurd (let z : ⊥ = omega (arith, h) in z)
get_before (x ∷ xs) ys zero h = refl
get_before (x ∷ xs) ys (suc k) h = get_before xs ys k (omega (arith, h))

pub get_next : (xs : List Tree) (y : Tree) → get_or (xs ++ (y ∷ [])) (length xs) (Leaf Void) ≡ y
get_next [] y = refl
get_next (x ∷ xs) y = get_next xs y

default_same : (xs ys : List Tree) (n : ℕ) (a : t.Ty) → n ≤ length xs → ty.IsHeld n a → default (xs ++ ys) a ≡ default xs a
default_same xs ys n t.VoidTy l h = refl
default_same xs ys n t.IntTy l h = refl
default_same xs ys n t.BoolTy l h = refl
default_same xs ys n t.CharTy l h = refl
default_same xs ys n t.TextTy l h = refl
default_same xs ys n (t.StructTy k) l h = get_before xs ys k (omega (arith, l, h))
default_same xs ys n (t.PointerTy a) l h = refl
default_same xs ys n (t.ArrayTy a) l h = refl

-- what is made of structs that are defined stays when more are
pub fields_same : (xs ys : List Tree) (n : ℕ) (ts : List t.Ty) → n ≤ length xs → ty.AreHeld n ts → fields (xs ++ ys) ts ≡ fields xs ts
fields_same xs ys n [] l h = refl
fields_same xs ys n (a ∷ ts) l h = cc (default_same xs ys n a l h.0, fields_same xs ys n ts l h.1)

-- each struct is made of those before it
pub held_at : (n : ℕ) (structs : List (List t.Ty)) (k : ℕ) (ts : List t.Ty) → ty.FitsStructs n structs → slice_get structs k ≡ Some ts → ty.AreHeld (n + k) ts
held_at n [] k ts h e = absurd (cc e)
held_at n (us ∷ structs) zero ts h e =
    let same : us ≡ ts = cc e in subst (λ z. ty.AreHeld (n + 0) z) same (subst (λ z. ty.AreHeld z us) (let z : n ≡ n + 0 = omega arith in z) h.0)
held_at n (us ∷ structs) (suc k) ts h e = subst (λ z. ty.AreHeld z ts) (let z : suc n + k ≡ n + suc k = omega arith in z) (held_at (suc n) structs k ts h.1 e)

pub structs_add : (n : ℕ) (structs : List (List t.Ty)) (ts : List t.Ty) → ty.FitsStructs n structs → ty.AreHeld (n + length structs) ts → ty.FitsStructs n (structs ++ (ts ∷ []))
structs_add n [] ts h g = (subst (λ k. ty.AreHeld k ts) (let z : n + 0 ≡ n = omega arith in z) g, tt)
structs_add n (x ∷ structs) ts h g = (h.0, structs_add (suc n) structs ts h.1 (subst (λ k. ty.AreHeld k ts) (let z : n + suc (length structs) ≡ suc n + length structs = omega arith in z) g))

pub get_more : {A : Type 0} (xs ys : List A) (k : ℕ) (x : A) → slice_get xs k ≡ Some x → slice_get (xs ++ ys) k ≡ Some x
get_more [] ys k x e = absurd (cc e)
get_more (y ∷ xs) ys zero x e = e
get_more (y ∷ xs) ys (suc k) x e = get_more xs ys k x e

pub get_last : {A : Type 0} (xs : List A) (x : A) → slice_get (xs ++ (x ∷ [])) (length xs) ≡ Some x
get_last [] x = refl
get_last (y ∷ xs) x = get_last xs x
