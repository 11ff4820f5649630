-- Finding the kind of a fault in a tree without places, and the place where it has its cause in a tree with them.
use Rattle.std.proofs.Common.{◌≡◌, ◌≢◌, ◌⊎◌, inl, inr, ℕ, ◌<◌, refl, sym, ltb, Bool, true, false, Option, Some, None, arith}
use Rattle.std.proofs.lemmas.Bool.{ltb-true}
use Rattle.std.specs.Prelude.{◌&&◌, ◌||◌, not}
use Rattle.c0_source.specs.declared.fault.Fault.{Fault}
use Rattle.c0_source.specs.declared.fault.FaultKind.{FaultKind}
use Rattle.c0_source.specs.declared.fault.Span.{Span}
use Rattle.c0_rules.specs.Types.{and_so, provided}
use Rattle.c0_rules.specs.FaultExpressions.{Told}

-- a fault of this kind has this cause at some place
abbrev pub At : FaultKind → (Fault → Type 0) → Type 0
At kind Q = (span : Span) × Q (record { kind = kind; span = span })

-- what is told of a fault at a place that has just been made
pub here : (x kind : FaultKind) (span : Span) → x ≡ kind → Told x span (record { kind = kind; span = span })
here x kind span e = (sym e, refl)

-- this kind, where the test holds
abbrev pub when : Bool → FaultKind → Option FaultKind
when true kind = Some kind
when false kind = None

-- the first kind that is found
abbrev pub or_else : Option FaultKind → Option FaultKind → Option FaultKind
or_else (Some x) q = Some x
or_else None q = q

pub either : (o q : Option FaultKind) (kind : FaultKind) → or_else o q ≡ Some kind → (o ≡ Some kind) ⊎ (q ≡ Some kind)
either (Some x) q kind e = inl e
either None q kind e = inr e

pub found_kind : (x kind : FaultKind) → Some x ≡ Some kind → x ≡ kind
found_kind x kind e = cc

pub when_is : (b : Bool) (x kind : FaultKind) → when b x ≡ Some kind → (b ≡ true) × (x ≡ kind)
when_is true x kind e = (refl, found_kind x kind e)
when_is false x kind e = absurd (cc e)

pub with_some : {A : Type 0} (o : Option A) (f : A → Option FaultKind) (kind : FaultKind) → and_so o f ≡ Some kind → (a : A) × (o ≡ Some a) × (f a ≡ Some kind)
with_some None f kind e = absurd (cc e)
with_some (Some a) f kind e = (a, refl, e)

pub where_so : (b : Bool) (o : Option FaultKind) (kind : FaultKind) → provided b o ≡ Some kind → (b ≡ true) × (o ≡ Some kind)
where_so true o kind e = (refl, e)
where_so false o kind e = absurd (cc e)

pub both : (a b : Bool) → (a && b) ≡ true → (a ≡ true) × (b ≡ true)
both true b e = (refl, e)
both false b e = absurd (cc e)

pub not_is : (b : Bool) → not b ≡ true → b ≡ false
not_is true e = absurd (cc e)
not_is false e = refl

-- there is nothing
abbrev pub is_none : {A : Type 0} → Option A → Bool
is_none None = true
is_none (Some a) = false

pub none_is : {A : Type 0} (o : Option A) → is_none o ≡ true → o ≡ None
none_is None e = refl
none_is (Some a) e = absurd (cc e)

-- two numbers differ
abbrev pub differ : ℕ → ℕ → Bool
differ n m = ltb n m || ltb m n

pub differ_is : (n m : ℕ) → differ n m ≡ true → n ≢ m
differ_is n m e = by (ltb n m) (ltb m n) refl refl e
  where
    by : (a b : Bool) → ltb n m ≡ a → ltb m n ≡ b → (a || b) ≡ true → n ≢ m
    by true b p q e = λ same. (let lt : n < m = ltb-true n m p in omega arith)
    by false true p q e = λ same. (let lt : m < n = ltb-true m n q in omega arith)
    by false false p q e = absurd (cc e)
