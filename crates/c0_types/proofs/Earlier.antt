-- What is given, beside a look at the same part of a text, of whose faults the first is told.
use Rattle.std.proofs.Common.{◌≡◌, ◌⊎◌, inl, inr, refl, sym, ap, ◌∙◌, subst, Bool, true, false, Option, None, Result, Ok, Err}
use Rattle.std.specs.Prelude.{◌&&◌, IfErr, MatchResult, is_ok}
use Rattle.c0_source.specs.declared.fault.Fault.{Fault}
use Rattle.c0_source.specs.declared.fault.FaultKind.TheVariants as k
use Rattle.c0_rules.specs.Answers.{Answers}
use Rattle.c0_rules.specs.Types.{provided}
use Rattle.c0_types_declarations.specs.DeclarationViews.{Accepts}

-- ---- a test beside what is given

module _ {T U A : Type 0} (view : T → A) (found : Result T Fault) (kept : Result U Fault) where
  abbrev pub Kept : Result T Fault → Type 0
  Kept r = MatchResult r (λ x. (found ≡ Ok x) × (is_ok kept ≡ true)) (λ f. (found ≡ Err f) ⊎ (kept ≡ Err f))

  none_kept : (b : Bool) (o : Option A) → o ≡ None → provided b o ≡ None
  none_kept true o e = e
  none_kept false o e = refl

  pub kept_answers : (r : Result T Fault) (o : Option A) (b : Bool) → is_ok kept ≡ b → Answers view found o → Kept r → Answers view r (provided b o)
  kept_answers (Ok x) o b e a h = ap (λ z. provided z o) (sym e ∙ h.1) ∙ subst (λ z. Answers view z o) h.0 a
  kept_answers (Err f) o b e a (inl h) = elim (subst (λ z. Answers view z o) h a) [ inl q ↦ inl q | inr q ↦ inr (none_kept b o q) ]
  kept_answers (Err f) o b e a (inr h) = inr (ap (λ z. provided z o) (sym e ∙ ap is_ok h))

  pub kept_cause : (P Q : Fault → Type 0) (r : Result T Fault) → IfErr found (λ f. (f.kind ≡ k.OutOfMemory) ⊎ P f) → IfErr kept Q → Kept r → IfErr r (λ f. (f.kind ≡ k.OutOfMemory) ⊎ P f ⊎ Q f)
  kept_cause P Q (Ok x) p q h = tt
  kept_cause P Q (Err f) p q (inl h) = elim (subst (λ z. IfErr z (λ f. (f.kind ≡ k.OutOfMemory) ⊎ P f)) h p) [ inl o ↦ inl o | inr w ↦ inr (inl w) ]
  kept_cause P Q (Err f) p q (inr h) = inr (inr (subst (λ z. IfErr z Q) h q))
