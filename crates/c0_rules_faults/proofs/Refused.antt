-- Rules in a row of which one refuses.
use Rattle.std.proofs.Common.{◌≡◌, refl, sym, subst, Bool, true, false, Option, Some, None}
use Rattle.std.specs.Prelude.{◌&&◌}
use Rattle.c0_typed.specs.Trees as t
use Rattle.c0_rules.specs.Types.{and_so, provided, ResolvedType, VoidType, same_type, is_small, Environment}
use Rattle.c0_rules.specs.Expressions.{Typing, Has, as_wanted, wanted}
use Rattle.c0_rules.specs.FaultExpressions.{is_value}
use Rattle.c0_rules.proofs.Rules.{AllSome}

pub and_none : {A B : Type 0} (o : Option A) (go : A → Option B) → o ≡ None → and_so o go ≡ None
and_none None go e = refl
and_none (Some a) go e = absurd (cc e)

pub and_each : {A B : Type 0} (o : Option A) (go : A → Option B) → ((a : A) → o ≡ Some a → go a ≡ None) → and_so o go ≡ None
and_each None go k = refl
and_each (Some a) go k = k a refl

pub and_at : {A B : Type 0} (o : Option A) (a : A) (go : A → Option B) → o ≡ Some a → go a ≡ None → and_so o go ≡ None
and_at o a go e n = subst (λ z. and_so z go ≡ None) (sym e) n

pub and_and : {A B C : Type 0} (o : Option A) (f : A → Option B) (g : B → Option C) → and_so (and_so o f) g ≡ None → and_so o (λ a. and_so (f a) g) ≡ None
and_and None f g e = refl
and_and (Some a) f g e = e

pub provided_none : {A : Type 0} (b : Bool) (o : Option A) → o ≡ None → provided b o ≡ None
provided_none true o e = e
provided_none false o e = refl

pub provided_false : {A : Type 0} (b : Bool) (o : Option A) → b ≡ false → provided b o ≡ None
provided_false true o e = absurd (cc e)
provided_false false o e = refl

pub provided_each : {A : Type 0} (b : Bool) (o : Option A) → (b ≡ true → o ≡ None) → provided b o ≡ None
provided_each true o k = k refl
provided_each false o k = refl

pub and_false : (a b : Bool) → b ≡ false → (a && b) ≡ false
and_false true b e = e
and_false false b e = refl

pub false_and : (a b : Bool) → a ≡ false → (a && b) ≡ false
false_and true b e = absurd (cc e)
false_and false b e = refl

-- ---- expressions without a value

-- it breaks a rule, or is a void call
abbrev pub NoValue : Option Typing → Type 0
NoValue o = AllSome (λ x. is_value x ≡ false) o

pub no_value : (o : Option Typing) → o ≡ None → NoValue o
no_value o e = subst NoValue (sym e) tt

is_void : (x : Typing) → is_value x ≡ false → (e : t.Exp) × (x ≡ Has VoidType e)
is_void (Has VoidType e) v = (e, refl)
is_void _ v = absurd (cc v)

pub and_void : {B : Type 0} (o : Option Typing) (go : Typing → Option B) → NoValue o → ((e : t.Exp) → go (Has VoidType e) ≡ None) → and_so o go ≡ None
and_void None go n k = refl
and_void (Some x) go n k = let q = is_void x n in subst (λ z. go z ≡ None) (sym q.1) (k q.0)

not_void : (want : ResolvedType) → is_small want ≡ true → same_type VoidType want ≡ false
not_void VoidType s = absurd (cc s)
not_void _ s = refl

pub wanted_none : (env : Environment) (want : ResolvedType) (o : Option Typing) → same_type VoidType want ≡ false → NoValue o → wanted env want o ≡ None
wanted_none env want o s n = and_void o (as_wanted env want) n (λ e. provided_false (same_type VoidType want) (Some e) s)

pub small_none : (env : Environment) (want : ResolvedType) (o : Option Typing) → is_small want ≡ true → NoValue o → wanted env want o ≡ None
small_none env want o s n = wanted_none env want o (not_void want s) n
