-- Where all entry facts of a block are known and what is known holds, each of them holds of the call that runs.
use Rattle.std.proofs.Common.{◌≡◌, ◌<◌, ℕ, zero, suc, true, List, [], ◌∷◌, length, inl, inr, refl, subst, arith}
use Rattle.std.specs.Prelude.{All, slice_get, slice_index}
use Rattle.std.proofs.lemmas.List.Elements.{All-cons, All-head, All-nil, All-tail}
use Rattle.code_form.specs.declared.allocation.Allocation.{Allocation}
use Rattle.code_form.specs.declared.form.Kind.{Kind}
use Rattle.code_form.specs.declared.form.Kind.TheVariants as kind
use Rattle.code_form.specs.declared.form.Fact.{Fact}
use Rattle.code_form.specs.declared.form.Fact.TheVariants as fact
use Rattle.code_form.specs.Form.{Head}
use Rattle.code_form.specs.Code.{Frame, is_pointer}
use Rattle.code_form.specs.Facts.{FactHolds, IsReference}
use Rattle.code_form.specs.Known.{AreKnown, IsKnown, Known}
use Rattle.code_verification.specs.Verified.{NamesFact}
use Rattle.code_verification.proofs.States.{AreTyped, Holds, IsKind, ScopeIs}
use Rattle.code_verification.proofs.SameKinds.{on_kind_is}
use Rattle.code_verification.proofs.Allocations.{some_le}

-- a pointer that is not NULL refers to an allocation
refers : (H : Head) (al : List Allocation) (k : Kind) (v : ℕ) → is_pointer k ≡ true → (v ≡ 0 → ⊥) → IsKind H al k v → IsReference al v
refers H al (kind.Ptr l) v p n (inl e) = absurd (n e)
refers H al (kind.Ptr l) v p n (inr x) = (positive v n, some_le al v x.0 x.1)
  where
    positive : (v : ℕ) → (v ≡ 0 → ⊥) → 0 < v
    positive zero n = absurd (n refl)
    positive (suc v) n = omega arith
refers H al kind.Int v p n x = absurd (cc p)
refers H al kind.Bool v p n x = absurd (cc p)
refers H al kind.Char v p n x = absurd (cc p)
refers H al kind.Text v p n x = absurd (cc p)
refers H al (kind.Arr l) v p n x = absurd (cc p)
refers H al (kind.Off l) v p n x = absurd (cc p)

module _ (H : Head) (al : List Allocation) (f : Frame) (k : Known)
    (typed : AreTyped H al f.function.kinds f.registers) (size : length f.scopes ≡ f.function.scopes) (holds : Holds H al f.function.kinds f.registers f.scopes k) where
  fact_holds : (x : Fact) → IsKnown k x → NamesFact f.function.kinds f.function.scopes x → FactHolds H al f x
  fact_holds (fact.Nonnull r) e n =
      let z = holds.nonnull r e in
      let p = on_kind_is is_pointer (slice_get f.function.kinds r) z.0 in
      refers H al p.0 (slice_index f.registers r) p.2 z.1 (typed r p.0 p.1)
  fact_holds (fact.Inside d r) e n =
      let z = holds.inside d r e in
      record { layout = z.layout; cells = z.cells; index = z.index; array = z.array; offsets = z.offsets; element = z.element; place = z.place; inside = z.inside }
  fact_holds (fact.Aimed s r off disp) e n = let l = n.0 in subst (λ q. ScopeIs f.registers q (slice_get f.scopes s)) e (holds.scope s (omega (arith, l, size)))
  fact_holds (fact.Shut s) e n = subst (λ q. ScopeIs f.registers q (slice_get f.scopes s)) e (holds.scope s (omega (arith, n, size)))

  pub facts_hold : (facts : List Fact) → AreKnown k facts → All (NamesFact f.function.kinds f.function.scopes) facts → All (FactHolds H al f) facts
  facts_hold [] e n = All-nil (FactHolds H al f)
  facts_hold (x ∷ rest) e n =
      All-cons (FactHolds H al f) x rest
      (fact_holds x e.0 (All-head (NamesFact f.function.kinds f.function.scopes) x rest n))
      (facts_hold rest e.1 (All-tail (NamesFact f.function.kinds f.function.scopes) x rest n))
