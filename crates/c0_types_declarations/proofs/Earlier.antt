-- Two looks at a part of a text, of whose faults the first is told.
use Rattle.std.proofs.Common.{◌≡◌, ◌⊎◌, inl, inr, refl, sym, ◌∙◌, subst, Bool, true, false, Result, Ok, Err}
use Rattle.std.specs.Prelude.{◌&&◌, IfErr, is_ok}
use Rattle.c0_source.specs.declared.fault.Fault.{Fault}
use Rattle.c0_source.specs.declared.fault.FaultKind.TheVariants as k
use Rattle.c0_types_declarations.specs.DeclarationViews.{Accepts}

-- ---- two tests

second_false : (a b : Bool) → b ≡ false → (a && b) ≡ false
second_false true b e = e
second_false false b e = refl

first_false : (a b : Bool) → a ≡ false → (a && b) ≡ false
first_false true b e = absurd (cc e)
first_false false b e = refl

both_hold : (a b : Bool) → a ≡ true → b ≡ true → (a && b) ≡ true
both_hold true b e h = h
both_hold false b e h = absurd (cc e)

module _ {T : Type 0} where
  refused_first : (first r : Result T Fault) (f : Fault) (a b : Bool) → Accepts first a → r ≡ Err f → r ≡ first → (f.kind ≡ k.OutOfMemory) ⊎ ((a && b) ≡ false)
  refused_first first r f a b h e q = elim (subst (λ z. Accepts z a) (sym q ∙ e) h) [ inl o ↦ inl o | inr n ↦ inr (first_false a b n) ]

  refused_second : (second r : Result T Fault) (f : Fault) (a b : Bool) → Accepts second b → r ≡ Err f → r ≡ second → (f.kind ≡ k.OutOfMemory) ⊎ ((a && b) ≡ false)
  refused_second second r f a b h e q = elim (subst (λ z. Accepts z b) (sym q ∙ e) h) [ inl o ↦ inl o | inr n ↦ inr (second_false a b n) ]

  passed : (r : Result T Fault) (a : Bool) → Accepts r a → is_ok r ≡ true → a ≡ true
  passed (Ok x) a h e = h
  passed (Err f) a h e = absurd (cc e)

  both_ok : (first second : Result T Fault) → true ≡ (is_ok first && is_ok second) → (is_ok first ≡ true) × (is_ok second ≡ true)
  both_ok (Ok x) (Ok y) e = (refl, refl)
  both_ok (Ok x) (Err f) e = absurd (cc e)
  both_ok (Err f) second e = absurd (cc e)

  -- both tests, by the two looks
  pub both_accepted : (first second r : Result T Fault) (a b : Bool) → Accepts first a → Accepts second b → is_ok r ≡ (is_ok first && is_ok second) → (r ≡ first) ⊎ (r ≡ second) → Accepts r (a && b)
  both_accepted first second (Ok x) a b h g e q = let w = both_ok first second e in both_hold a b (passed first a h w.0) (passed second b g w.1)
  both_accepted first second (Err f) a b h g e (inl q) = refused_first first (Err f) f a b h refl q
  both_accepted first second (Err f) a b h g e (inr q) = refused_second second (Err f) f a b g refl q

  pub one_cause : (P Q : Fault → Type 0) (first second r : Result T Fault) → IfErr first (λ f. (f.kind ≡ k.OutOfMemory) ⊎ P f) → IfErr second Q → (r ≡ first) ⊎ (r ≡ second) → IfErr r (λ f. (f.kind ≡ k.OutOfMemory) ⊎ P f ⊎ Q f)
  one_cause P Q first second (Ok x) h g q = tt
  one_cause P Q first second (Err f) h g (inl q) = elim (subst (λ z. IfErr z (λ f. (f.kind ≡ k.OutOfMemory) ⊎ P f)) (sym q) h) [ inl o ↦ inl o | inr p ↦ inr (inl p) ]
  one_cause P Q first second (Err f) h g (inr q) = inr (inr (subst (λ z. IfErr z Q) (sym q) g))
