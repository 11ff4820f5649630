-- What holds of rules in a row, and of equal names and types.
use Rattle.std.proofs.Common.{◌≡◌, List, [], ◌∷◌, refl, ap, subst, Bool, true, false, Option, Some, None}
use Rattle.std.specs.Prelude.{◌&&◌, nat_eq, not, bytes_eq, is_some}
use Rattle.c0_rules.specs.Types.{and_so, provided, Name, ResolvedType, VoidType, IntType, BoolType, CharType, StringType, StructNamed, PointerTo, ArrayOf, same_type, same_types}
use borrow.Author.Tests.{eqb-true}

pub both_true : (a b : Bool) → (a && b) ≡ true → (a ≡ true) × (b ≡ true)
both_true true b e = (refl, e)
both_true false b e = absurd (cc e)

pub not_false : (b : Bool) → not b ≡ true → b ≡ false
not_false true e = absurd (cc e)
not_false false e = refl

pub same_name_is : (a b : Name) → bytes_eq a b ≡ true → a ≡ b
same_name_is [] [] e = refl
same_name_is (x ∷ a) (y ∷ b) e = let q = both_true (nat_eq x y) (bytes_eq a b) e in let h : x ≡ y = eqb-true x y q.0 in cc (h, same_name_is a b q.1)
same_name_is _ _ e = absurd (cc e)

pub same_type_is : (a b : ResolvedType) → same_type a b ≡ true → a ≡ b
same_type_is VoidType VoidType e = refl
same_type_is IntType IntType e = refl
same_type_is BoolType BoolType e = refl
same_type_is CharType CharType e = refl
same_type_is StringType StringType e = refl
same_type_is (StructNamed n) (StructNamed m) e = ap StructNamed (same_name_is n m e)
same_type_is (PointerTo a) (PointerTo b) e = ap PointerTo (same_type_is a b e)
same_type_is (ArrayOf a) (ArrayOf b) e = ap ArrayOf (same_type_is a b e)
same_type_is _ _ e = absurd (cc e)

pub same_types_are : (types others : List ResolvedType) → same_types types others ≡ true → types ≡ others
same_types_are [] [] e = refl
same_types_are (a ∷ rest) (b ∷ others) e = let q = both_true (same_type a b) (same_types rest others) e in cc (same_type_is a b q.0, same_types_are rest others q.1)
same_types_are _ _ e = absurd (cc e)

-- what holds of all that there is
abbrev pub AllSome : {A : Type 0} → (A → Type 0) → Option A → Type 0
AllSome P None = Unit {0}
AllSome P (Some a) = P a

pub all_so : {A B : Type 0} (P : A → Type 0) (Q : B → Type 0) (o : Option A) (go : A → Option B) → AllSome P o → ((a : A) → P a → AllSome Q (go a)) → AllSome Q (and_so o go)
all_so P Q None go h k = tt
all_so P Q (Some a) go h k = k a h

pub all_go : {A B : Type 0} (Q : B → Type 0) (o : Option A) (go : A → Option B) → ((a : A) → o ≡ Some a → AllSome Q (go a)) → AllSome Q (and_so o go)
all_go Q None go k = tt
all_go Q (Some a) go k = k a refl

pub all_if : {A : Type 0} (P : A → Type 0) (b : Bool) (o : Option A) → (b ≡ true → AllSome P o) → AllSome P (provided b o)
all_if P true o h = h refl
all_if P false o h = tt

pub all_map : {A : Type 0} (P Q : A → Type 0) (o : Option A) → AllSome P o → ((a : A) → P a → Q a) → AllSome Q o
all_map P Q None h k = tt
all_map P Q (Some a) h k = k a h

pub some_has : {A : Type 0} (P : A → Type 0) (o : Option A) (a : A) → AllSome P o → o ≡ Some a → P a
some_has P o a h e = subst (AllSome P) e h

pub is_none_of : {A : Type 0} (o : Option A) → is_some o ≡ false → o ≡ None
is_none_of None e = refl
is_none_of (Some a) e = absurd (cc e)
