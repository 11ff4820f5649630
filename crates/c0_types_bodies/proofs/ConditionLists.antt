-- The conditions of specs, one behind the other.
use Rattle.std.proofs.Common.{◌≡◌, ℕ, zero, suc, ◌+◌, ◌<◌, ◌≤◌, List, [], ◌∷◌, ◌++◌, map, length, get_or, drop, refl, sym, ap, subst, ◌∙◌, Bool, true, false, Option, Some, None, arith, inl, inr}
use Rattle.std.specs.Prelude.{◌&&◌, ◌⊎◌}
use Rattle.std.proofs.lemmas.List.{at_drop_all, drop_more}
use Rattle.c0_source.specs.declared.fault.Fault.{Fault}
use Rattle.c0_source.specs.declared.fault.FaultKind.TheVariants as k
use Rattle.c0_syntax.specs.declared.statement.Annotation.{Annotation}
use Rattle.c0_syntax.specs.declared.statement.SpecKind.{SpecKind}
use Rattle.c0_syntax.specs.declared.statement.SpecKind.TheVariants as p
use Rattle.c0_syntax.specs.declared.statement.Spec as n
use Rattle.c0_syntax.specs.Trees as s
use Rattle.c0_syntax.specs.Views.{annotation_of, expression_of, spec_by, spec_of}
use Rattle.c0_typed.specs.Trees as t
use Rattle.c0_typed.specs.Views.{exp_of, exps_of}
use Rattle.c0_typed.specs.declared.tree.Expression.{Expression}
use Rattle.c0_types_bodies.specs.Bodies.{SpecsHaveTexts, role_by, rule_of, joined, with_front}
use Rattle.c0_rules.specs.FaultExpressions.{Told}
use Rattle.c0_rules.specs.FaultStatements.{InAnnotations, InCondition, InSpecs}
use Rattle.c0_rules.specs.Expressions.{Context, typed_expression, wanted}
use Rattle.c0_rules.specs.Mentions.{condition_of, specs_in}
use Rattle.c0_rules.specs.Statements.{Role, all_are, conditions, conditions_of_all, role_of, same_role}
use Rattle.c0_types_terms.specs.Terms.{HasTexts}
use Rattle.c0_rules.specs.Types.{and_so, provided, Name, Environment, BoolType}

-- ---- a spec by its parts

pub condition_is : (x : n.Spec) → condition_of (spec_of x) ≡ expression_of x.condition
condition_is x = at x.kind
  where
    at : (k : SpecKind) → condition_of (spec_by k (expression_of x.condition)) ≡ expression_of x.condition
    at (p.Contract clause) = refl
    at p.Assert = refl

pub role_is : (x : n.Spec) → role_of (spec_of x) ≡ role_by x.kind
role_is x = at x.kind
  where
    at : (k : SpecKind) → role_of (spec_by k (expression_of x.condition)) ≡ role_by k
    at (p.Contract clause) = refl
    at p.Assert = refl

-- ---- expressions behind others

joined_assoc : (a b c : t.Exps) → joined a (joined b c) ≡ joined (joined a b) c
joined_assoc t.NoExp b c = refl
joined_assoc (t.More x a) b c = ap (t.More x) (joined_assoc a b c)

joined_none : (a : t.Exps) → joined a t.NoExp ≡ a
joined_none t.NoExp = refl
joined_none (t.More x a) = ap (t.More x) (joined_none a)

pub exps_push : (texts : List Name) (xs : List Expression) (x : Expression) → exps_of texts (xs ++ x ∷ []) ≡ joined (exps_of texts xs) (t.More (exp_of texts x) t.NoExp)
exps_push texts [] x = refl
exps_push texts (y ∷ xs) x = ap (t.More (exp_of texts y)) (exps_push texts xs x)

pub no_front : (o : Option t.Exps) → with_front t.NoExp o ≡ o
no_front None = refl
no_front (Some xs) = refl

pub front_alone : (front : t.Exps) → with_front front (Some t.NoExp) ≡ Some front
front_alone front = ap Some (joined_none front)

front_moved : (front : t.Exps) (x : t.Exp) (o : Option t.Exps) → with_front front (and_so o (λ xs. Some (t.More x xs))) ≡ with_front (joined front (t.More x t.NoExp)) o
front_moved front x None = refl
front_moved front x (Some xs) = ap Some (joined_assoc front (t.More x t.NoExp) xs)

module _ (env : Environment) (role : Role) (at : Context) where
  first_alone : (x : s.Spec) (rest : List s.Spec) → conditions_of_all env role at (x ∷ rest) ≡ and_so (rule_of env role at x) (λ e. and_so (conditions_of_all env role at rest) (λ xs. Some (t.More e xs)))
  first_alone x rest = by_role (same_role role (role_of x)) (wanted env BoolType (typed_expression env at (condition_of x))) (all_are role rest) (conditions env role at rest)
    where
      by_role : (b : Bool) (w : Option t.Exp) (r : Bool) (o : Option t.Exps)
          → provided (b && r) (elim b [ true ↦ and_so w (λ e. and_so o (λ xs. Some (t.More e xs))) | false ↦ o ]) ≡ and_so (provided b w) (λ e. and_so (provided r o) (λ xs. Some (t.More e xs)))
      by_role true None true o = refl
      by_role true None false o = refl
      by_role true (Some e) true o = refl
      by_role true (Some e) false o = refl
      by_role false w r o = refl

  -- behind a spec that has its role and a condition
  pub one_more : (front : t.Exps) (x : s.Spec) (rest : List s.Spec) (e : t.Exp) → rule_of env role at x ≡ Some e
      → with_front (joined front (t.More e t.NoExp)) (conditions_of_all env role at rest) ≡ with_front front (conditions_of_all env role at (x ∷ rest))
  one_more front x rest e h =
      sym (front_moved front e (conditions_of_all env role at rest))
      ∙ ap (λ o. with_front front (and_so o (λ z. and_so (conditions_of_all env role at rest) (λ xs. Some (t.More z xs))))) (sym h)
      ∙ ap (with_front front) (sym (first_alone x rest))

  pub none_more : (front : t.Exps) (x : s.Spec) (rest : List s.Spec) → rule_of env role at x ≡ None → with_front front (conditions_of_all env role at (x ∷ rest)) ≡ None
  none_more front x rest h =
      ap (with_front front) (first_alone x rest)
      ∙ ap (λ o. with_front front (and_so o (λ z. and_so (conditions_of_all env role at rest) (λ xs. Some (t.More z xs))))) h

  -- specs in two parts
  pub two_parts : (front : t.Exps) (a b : List s.Spec) (o : Option t.Exps) → with_front front (conditions_of_all env role at a) ≡ o
      → with_front front (conditions_of_all env role at (a ++ b)) ≡ and_so o (λ f. with_front f (conditions_of_all env role at b))
  two_parts front [] b o h = subst (λ z. with_front front (conditions_of_all env role at b) ≡ and_so z (λ f. with_front f (conditions_of_all env role at b))) (sym (front_alone front) ∙ h) refl
  two_parts front (x ∷ a) b o h = by_first (rule_of env role at x) refl (λ z e. two_parts (joined front (t.More z t.NoExp)) a b o (one_more front x a z e ∙ h))
    where
      by_first : (r : Option t.Exp) → rule_of env role at x ≡ r
          → ((z : t.Exp) → rule_of env role at x ≡ Some z → with_front (joined front (t.More z t.NoExp)) (conditions_of_all env role at (a ++ b)) ≡ and_so o (λ f. with_front f (conditions_of_all env role at b)))
          → with_front front (conditions_of_all env role at (x ∷ a ++ b)) ≡ and_so o (λ f. with_front f (conditions_of_all env role at b))
      by_first None e later =
          none_more front x (a ++ b) e ∙ ap (λ z. and_so z (λ f. with_front f (conditions_of_all env role at b))) (sym (none_more front x a e) ∙ h)
      by_first (Some z) e later = sym (one_more front x (a ++ b) z e) ∙ later z e

-- ---- specs in their order

pub rule_is : (env : Environment) (role : Role) (at : Context) (x : n.Spec) → same_role role (role_by x.kind) ≡ true → rule_of env role at (spec_of x) ≡ wanted env BoolType (typed_expression env at (expression_of x.condition))
rule_is env role at x h =
    ap (λ r. provided (same_role role r) (wanted env BoolType (typed_expression env at (condition_of (spec_of x))))) (role_is x)
    ∙ ap (λ b. provided b (wanted env BoolType (typed_expression env at (condition_of (spec_of x))))) h
    ∙ ap (λ e. wanted env BoolType (typed_expression env at e)) (condition_is x)

pub specs_from : (xs : List n.Spec) (i : ℕ) (x : n.Spec) → i < length xs → x ≡ get_or xs i x → map spec_of (drop i xs) ≡ spec_of x ∷ map spec_of (drop (i + 1) xs)
specs_from xs i x l e = ap (map spec_of) (drop_more xs i x l) ∙ ap (λ z. spec_of z ∷ map spec_of (drop (i + 1) xs)) (sym e)

pub notes_from : (xs : List Annotation) (i : ℕ) (x : Annotation) → i < length xs → x ≡ get_or xs i x → specs_in (map annotation_of (drop i xs)) ≡ annotation_of x ++ specs_in (map annotation_of (drop (i + 1) xs))
notes_from xs i x l e = ap (λ z. specs_in (map annotation_of z)) (drop_more xs i x l) ∙ ap (λ z. annotation_of z ++ specs_in (map annotation_of (drop (i + 1) xs))) (sym e)

pub spec_has : (texts : List Name) (xs : List n.Spec) (i : ℕ) (x : n.Spec) → i < length xs → x ≡ get_or xs i x → SpecsHaveTexts texts (map spec_of xs) → HasTexts texts (expression_of x.condition)
spec_has texts [] i x l e h = absurd (omega arith)
spec_has texts (y ∷ xs) zero x l e h = subst (HasTexts texts) (condition_is y ∙ ap (λ z. expression_of z.condition) (sym e)) h.0
spec_has texts (y ∷ xs) (suc i) x l e h = spec_has texts xs i x (omega arith) e h.1

have_left : (texts : List Name) (a b : List s.Spec) → SpecsHaveTexts texts (a ++ b) → SpecsHaveTexts texts a
have_left texts [] b h = tt
have_left texts (x ∷ a) b h = (h.0, have_left texts a b h.1)

have_right : (texts : List Name) (a b : List s.Spec) → SpecsHaveTexts texts (a ++ b) → SpecsHaveTexts texts b
have_right texts [] b h = h
have_right texts (x ∷ a) b h = have_right texts a b h.1

pub note_has : (texts : List Name) (xs : List Annotation) (i : ℕ) (x : Annotation) → i < length xs → x ≡ get_or xs i x → SpecsHaveTexts texts (specs_in (map annotation_of xs)) → SpecsHaveTexts texts (map spec_of x.specs.items)
note_has texts [] i x l e h = absurd (omega arith)
note_has texts (y ∷ xs) zero x l e h = subst (λ z. SpecsHaveTexts texts (annotation_of z)) (sym e) (have_left texts (annotation_of y) (specs_in (map annotation_of xs)) h)
note_has texts (y ∷ xs) (suc i) x l e h = note_has texts xs i x (omega arith) e (have_right texts (annotation_of y) (specs_in (map annotation_of xs)) h)

-- what holds of some part of a list, from the element for which it holds
pub at_place : {A : Type 0} (P : A → Type 0) (Q : List A → Type 0) → ((x : A) (xs : List A) → P x → Q (x ∷ xs)) → ((x : A) (xs : List A) → Q xs → Q (x ∷ xs))
    → (xs : List A) (i : ℕ) (x : A) → i < length xs → x ≡ get_or xs i x → P x → Q xs
at_place P Q first later [] i x l e h = absurd (omega arith)
at_place P Q first later (y ∷ xs) zero x l e h = first y xs (subst P e h)
at_place P Q first later (y ∷ xs) (suc i) x l e h = later y xs (at_place P Q first later xs i x (omega arith) e h)

module _ (env : Environment) (role : Role) (at : Context) where
  -- a turn of the loop over specs, and its end
  pub condition_none : {K : Type 0} (front : t.Exps) (xs : List n.Spec) (i : ℕ) (x : n.Spec) → i < length xs → x ≡ get_or xs i x → (total : Option t.Exps)
      → K ⊎ (rule_of env role at (spec_of x) ≡ None) → with_front front (conditions_of_all env role at (map spec_of (drop i xs))) ≡ total → K ⊎ (total ≡ None)
  condition_none front xs i x l e total (inl k) so_far = inl k
  condition_none front xs i x l e total (inr h) so_far =
      inr (sym so_far ∙ ap (λ z. with_front front (conditions_of_all env role at z)) (specs_from xs i x l e) ∙ none_more env role at front (spec_of x) (map spec_of (drop (i + 1) xs)) h)

  pub condition_more : (texts : List Name) (front : List Expression) (found : Expression) (xs : List n.Spec) (i : ℕ) (x : n.Spec) → i < length xs → x ≡ get_or xs i x → (total : Option t.Exps)
      → rule_of env role at (spec_of x) ≡ Some (exp_of texts found) → with_front (exps_of texts front) (conditions_of_all env role at (map spec_of (drop i xs))) ≡ total
      → with_front (exps_of texts (front ++ found ∷ [])) (conditions_of_all env role at (map spec_of (drop (i + 1) xs))) ≡ total
  condition_more texts front found xs i x l e total h so_far =
      let rest = map spec_of (drop (i + 1) xs) in
      ap (λ z. with_front z (conditions_of_all env role at rest)) (exps_push texts front found)
      ∙ one_more env role at (exps_of texts front) (spec_of x) rest (exp_of texts found) h
      ∙ ap (λ z. with_front (exps_of texts front) (conditions_of_all env role at z)) (sym (specs_from xs i x l e))
      ∙ so_far

  pub conditions_done : (front : t.Exps) (xs : List n.Spec) (i : ℕ) → length xs ≤ i → (total : Option t.Exps) → with_front front (conditions_of_all env role at (map spec_of (drop i xs))) ≡ total → total ≡ Some front
  conditions_done front xs i l total so_far = sym so_far ∙ at_drop_all (λ z. with_front front (conditions_of_all env role at (map spec_of z))) xs i l ∙ front_alone front

  -- the same of annotations
  pub note_none : {K : Type 0} (front : t.Exps) (xs : List Annotation) (i : ℕ) (x : Annotation) → i < length xs → x ≡ get_or xs i x → (total : Option t.Exps)
      → K ⊎ (with_front front (conditions_of_all env role at (map spec_of x.specs.items)) ≡ None) → with_front front (conditions_of_all env role at (specs_in (map annotation_of (drop i xs)))) ≡ total → K ⊎ (total ≡ None)
  note_none front xs i x l e total (inl k) so_far = inl k
  note_none front xs i x l e total (inr h) so_far =
      inr (sym so_far ∙ ap (λ z. with_front front (conditions_of_all env role at z)) (notes_from xs i x l e) ∙ two_parts env role at front (annotation_of x) (specs_in (map annotation_of (drop (i + 1) xs))) None h)

  pub note_more : (front behind : t.Exps) (xs : List Annotation) (i : ℕ) (x : Annotation) → i < length xs → x ≡ get_or xs i x → (total : Option t.Exps)
      → with_front front (conditions_of_all env role at (map spec_of x.specs.items)) ≡ Some behind → with_front front (conditions_of_all env role at (specs_in (map annotation_of (drop i xs)))) ≡ total
      → with_front behind (conditions_of_all env role at (specs_in (map annotation_of (drop (i + 1) xs)))) ≡ total
  note_more front behind xs i x l e total h so_far =
      sym (two_parts env role at front (annotation_of x) (specs_in (map annotation_of (drop (i + 1) xs))) (Some behind) h)
      ∙ ap (λ z. with_front front (conditions_of_all env role at z)) (sym (notes_from xs i x l e))
      ∙ so_far

  pub notes_done : (front : t.Exps) (xs : List Annotation) (i : ℕ) → length xs ≤ i → (total : Option t.Exps) → with_front front (conditions_of_all env role at (specs_in (map annotation_of (drop i xs)))) ≡ total → total ≡ Some front
  notes_done front xs i l total so_far = sym so_far ∙ at_drop_all (λ z. with_front front (conditions_of_all env role at (specs_in (map annotation_of z)))) xs i l ∙ front_alone front

-- ---- causes

pub spec_cause : {K : Type 0} (env : Environment) (f : Fault) (role : Role) (at : Context) (xs : List n.Spec) (i : ℕ) (x : n.Spec) → i < length xs → x ≡ get_or xs i x
    → K ⊎ ((same_role role (role_of (spec_of x)) ≡ false) × Told k.BadContract x.word f) ⊎ InCondition env f at x.condition → K ⊎ InSpecs env f role at xs
spec_cause env f role at xs i x l e (inl k) = inl k
spec_cause env f role at xs i x l e (inr h) = inr (at_place (λ z. ((same_role role (role_of (spec_of z)) ≡ false) × Told k.BadContract z.word f) ⊎ InCondition env f at z.condition) (InSpecs env f role at) first (λ z zs q. inr (inr q)) xs i x l e h)
  where
    first : (z : n.Spec) (zs : List n.Spec) → ((same_role role (role_of (spec_of z)) ≡ false) × Told k.BadContract z.word f) ⊎ InCondition env f at z.condition → InSpecs env f role at (z ∷ zs)
    first z zs (inl a) = inl a
    first z zs (inr c) = inr (inl c)

pub note_cause : {K : Type 0} (env : Environment) (f : Fault) (role : Role) (at : Context) (xs : List Annotation) (i : ℕ) (x : Annotation) → i < length xs → x ≡ get_or xs i x → K ⊎ InSpecs env f role at x.specs.items → K ⊎ InAnnotations env f role at xs
note_cause env f role at xs i x l e (inl k) = inl k
note_cause env f role at xs i x l e (inr h) = inr (at_place (λ z. InSpecs env f role at z.specs.items) (InAnnotations env f role at) (λ z zs q. inl q) (λ z zs q. inr q) xs i x l e h)
