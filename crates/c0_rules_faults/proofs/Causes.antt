-- Where rules in a row refuse, one of them does.
use Rattle.std.proofs.Common.{◌≡◌, ◌⊎◌, inl, inr, refl, sym, ◌∙◌, subst, Bool, true, false, Option, Some, None}
use Rattle.std.specs.Prelude.{◌&&◌, not}
use Rattle.c0_source.specs.declared.fault.Fault.{Fault}
use Rattle.c0_source.specs.declared.fault.FaultKind.{FaultKind}
use Rattle.c0_source.specs.declared.fault.Span.{Span}
use Rattle.c0_rules.specs.Types.{and_so, provided}
use Rattle.c0_rules.specs.Expressions.{Typing}
use Rattle.c0_rules.specs.FaultExpressions.{Told, is_value}
use Rattle.c0_rules.proofs.Rules.{AllSome}
use Rattle.c0_rules_faults.proofs.Refused.{NoValue}

-- some fault is so
abbrev pub Caused : (Fault → Type 0) → Type 0
Caused Q = (fault : Fault) × Q fault

pub caused_as : (Q R : Fault → Type 0) → ((fault : Fault) → Q fault → R fault) → Caused Q → Caused R
caused_as Q R go h = (h.0, go h.0 h.1)

-- a fault of this kind at this place
pub told : (kind : FaultKind) (span : Span) → Caused (Told kind span)
told kind span = (record { kind = kind; span = span }, (refl, refl))

pub split : {A B : Type 0} (o : Option A) (go : A → Option B) → and_so o go ≡ None → (o ≡ None) ⊎ ((a : A) × (o ≡ Some a) × (go a ≡ None))
split None go e = inl refl
split (Some a) go e = inr (a, refl, e)

pub split_if : {A : Type 0} (b : Bool) (o : Option A) → provided b o ≡ None → (b ≡ false) ⊎ ((b ≡ true) × (o ≡ None))
split_if true o e = inr (refl, e)
split_if false o e = inl refl

pub split_and : (a b : Bool) → (a && b) ≡ false → (a ≡ false) ⊎ (b ≡ false)
split_and true b e = inr e
split_and false b e = inl refl

pub not_false_is : (b : Bool) → not b ≡ false → b ≡ true
not_false_is true e = refl
not_false_is false e = absurd (cc e)

pub some_refused : {A : Type 0} (a : A) → Some a ≡ None → ⊥
some_refused a e = cc e

-- an expression has no value, or it has one
pub seen : (o : Option Typing) → NoValue o ⊎ ((x : Typing) × (o ≡ Some x) × (is_value x ≡ true))
seen None = inl tt
seen (Some x) = by (is_value x) refl
  where
    by : (b : Bool) → is_value x ≡ b → NoValue (Some x) ⊎ ((y : Typing) × (Some x ≡ Some y) × (is_value y ≡ true))
    by true e = inr (x, refl, e)
    by false e = inl e

-- what has a value where it has anything has nothing
pub none_of : (o : Option Typing) → AllSome (λ x. is_value x ≡ true) o → NoValue o → o ≡ None
none_of None h n = refl
none_of (Some x) h n = let z : true ≡ false = sym h ∙ n in absurd (cc z)

pub valued : (o : Option Typing) (x : Typing) → o ≡ Some x → NoValue o → is_value x ≡ false
valued o x e n = subst NoValue e n

-- rules in a row that end without a value
pub split_typing : {A : Type 0} (o : Option A) (go : A → Option Typing) → NoValue (and_so o go) → (o ≡ None) ⊎ ((a : A) × (o ≡ Some a) × NoValue (go a))
split_typing None go h = inl refl
split_typing (Some a) go h = inr (a, refl, h)

pub joined : {A B : Type 0} (o : Option A) (f : A → Option B) (g : B → Option Typing) → NoValue (and_so o (λ a. and_so (f a) g)) → NoValue (and_so (and_so o f) g)
joined None f g h = h
joined (Some a) f g h = h
