-- The first of several faults, where there is none.
use Rattle.std.proofs.Common.{◌≡◌, Bool, true, false, Option, Some, None, List, [], ◌∷◌, refl}
use Rattle.std.specs.Prelude.{◌&&◌, ◌||◌, All, not}
use Rattle.std.proofs.lemmas.List.Elements.{All-cons, All-head, All-nil, All-tail}
use Rattle.scope_verifier_laws.specs.declared.fault.VerifyFault.{VerifyFault}
use Rattle.scope_verifier_laws.specs.First.{first_in, first_of, unless}

pub neither : (a b : Option VerifyFault) → first_of a b ≡ None → (a ≡ None) × (b ≡ None)
neither None b e = (refl, e)
neither (Some f) b e = absurd (cc e)

pub both : (a b : Option VerifyFault) → a ≡ None → b ≡ None → first_of a b ≡ None
both None b p q = q
both (Some f) b p q = p

pub holds : (b : Bool) (f : VerifyFault) → unless b f ≡ None → b ≡ true
holds true f e = refl
holds false f e = absurd (cc e)

pub unless_true : (b : Bool) (f : VerifyFault) → b ≡ true → unless b f ≡ None
unless_true true f e = refl
unless_true false f e = absurd (cc e)

pub none_in : {A : Type 0} (g : A → Option VerifyFault) (xs : List A) → first_in g xs ≡ None → All (λ x. g x ≡ None) xs
none_in g [] e = All-nil (λ x. g x ≡ None)
none_in g (x ∷ xs) e = let q = neither (g x) (first_in g xs) e in All-cons (λ y. g y ≡ None) x xs q.0 (none_in g xs q.1)

pub in_none : {A : Type 0} (g : A → Option VerifyFault) (xs : List A) → All (λ x. g x ≡ None) xs → first_in g xs ≡ None
in_none g [] h = refl
in_none g (x ∷ xs) h = both (g x) (first_in g xs) (All-head (λ y. g y ≡ None) x xs h) (in_none g xs (All-tail (λ y. g y ≡ None) x xs h))

-- ---- tests

pub both_true : (a b : Bool) → a && b ≡ true → (a ≡ true) × (b ≡ true)
both_true true b e = (refl, e)
both_true false b e = absurd (cc e)

pub and_true : (a b : Bool) → a ≡ true → b ≡ true → a && b ≡ true
and_true true b p q = q
and_true false b p q = absurd (cc p)

pub where_true : (a b : Bool) → not a || b ≡ true → a ≡ true → b ≡ true
where_true true b e p = e
where_true false b e p = absurd (cc p)

pub true_where : (a b : Bool) → (a ≡ true → b ≡ true) → not a || b ≡ true
true_where true b h = h refl
true_where false b h = refl
