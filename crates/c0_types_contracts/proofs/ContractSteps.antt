-- The specs of a contract one after the other.
use Rattle.std.proofs.Common.{◌≡◌, inl, inr, ℕ, zero, suc, ◌+◌, ◌<◌, ◌≤◌, List, [], ◌∷◌, ◌++◌, map, length, get_or, drop, refl, sym, ap, subst, ◌∙◌, Bool, true, false, Option, Some, None, arith}
use Rattle.std.specs.Prelude.{◌&&◌, ◌||◌, ◌⊎◌}
use Rattle.std.proofs.lemmas.List.{at_drop_all}
use Rattle.c0_source.specs.declared.fault.Fault.{Fault}
use Rattle.c0_source.specs.declared.fault.FaultKind.TheVariants as k
use Rattle.c0_source.specs.declared.kind.Clause.{Clause}
use Rattle.c0_source.specs.declared.kind.Clause.TheVariants as c
use Rattle.c0_syntax.specs.declared.statement.Annotation.{Annotation}
use Rattle.c0_syntax.specs.declared.statement.Spec as n
use Rattle.c0_syntax.specs.declared.statement.SpecKind.{SpecKind}
use Rattle.c0_syntax.specs.declared.statement.SpecKind.TheVariants as p
use Rattle.c0_syntax.specs.Trees as s
use Rattle.c0_syntax.specs.Views.{annotation_of, expression_of, spec_by, spec_of}
use Rattle.c0_typed.specs.Trees as t
use Rattle.c0_typed.specs.Views.{exp_of, exps_of}
use Rattle.c0_typed.specs.declared.tree.Expression.{Expression}
use Rattle.c0_rules.specs.FaultStatements.{InCondition}
use Rattle.c0_rules.specs.FaultPrograms.{InContract, InContracts}
use Rattle.c0_rules.specs.Expressions.{Context, typed_expression, wanted}
use Rattle.c0_rules.specs.Mentions.{condition_of, specs_in}
use Rattle.c0_rules.specs.Programs.{are_contracts}
use Rattle.c0_rules.specs.Statements.{Role, Precondition, Postcondition, Invariant, Assertion, clause_role, conditions, role_of, same_role}
use Rattle.c0_rules.specs.Types.{and_so, provided, Name, Environment, BoolType}
use Rattle.c0_types_terms.specs.Terms.{HasTexts}
use Rattle.c0_types_bodies.specs.Bodies.{SpecsHaveTexts}
use Rattle.c0_types_declarations.proofs.ParameterNames.{at_place, rest_from}
use Rattle.c0_types_contracts.specs.ContractViews.{InContractSpec, condition_added, contract_of, specs_added, with_last}

-- ---- a spec by its parts

pub condition_is : (x : n.Spec) → condition_of (spec_of x) ≡ expression_of x.condition
condition_is x = at x.kind
  where
    at : (k : SpecKind) → condition_of (spec_by k (expression_of x.condition)) ≡ expression_of x.condition
    at (p.Contract clause) = refl
    at p.Assert = refl

role_of_clause : (x : n.Spec) (clause : Clause) → x.kind ≡ p.Contract clause → role_of (spec_of x) ≡ clause_role clause
role_of_clause x clause e = ap (λ z. role_of (spec_by z (expression_of x.condition))) e

-- ---- expressions behind others

abbrev joined : t.Exps → t.Exps → t.Exps
joined t.NoExp others = others
joined (t.More e rest) others = t.More e (joined rest others)

joined_none : (a : t.Exps) → joined a t.NoExp ≡ a
joined_none t.NoExp = refl
joined_none (t.More x a) = ap (t.More x) (joined_none a)

joined_last : (a : t.Exps) (e : t.Exp) (b : t.Exps) → joined (with_last a e) b ≡ joined a (t.More e b)
joined_last t.NoExp e b = refl
joined_last (t.More x a) e b = ap (t.More x) (joined_last a e b)

pub exps_push : (texts : List Name) (xs : List Expression) (x : Expression) → exps_of texts (xs ++ x ∷ []) ≡ with_last (exps_of texts xs) (exp_of texts x)
exps_push texts [] x = refl
exps_push texts (y ∷ xs) x = ap (t.More (exp_of texts y)) (exps_push texts xs x)

-- ---- the conditions of a contract, behind others

abbrev Both : Type 0
Both = t.Exps × t.Exps

abbrev both : Option t.Exps → Option t.Exps → Option Both
both o q = and_so o (λ xs. and_so q (λ ys. Some (xs, ys)))

abbrev by_front : Both → Option Both → Option Both
by_front front o = and_so o (λ q. Some (joined front.0 q.0, joined front.1 q.1))

no_front : (o : Option Both) → by_front (t.NoExp, t.NoExp) o ≡ o
no_front None = refl
no_front (Some q) = refl

front_alone : (front : Both) → Some front ≡ by_front front (Some (t.NoExp, t.NoExp))
front_alone front = sym (λ i. Some (joined_none front.0 i, joined_none front.1 i))

-- a precondition first
before_more : (w : Option t.Exp) (m : Bool) (o q : Option t.Exps) (front : Both) (go : Both → Option Both) → ((f : Both) → go f ≡ by_front f (provided m (both o q)))
    → and_so (and_so w (λ x. Some (with_last front.0 x, front.1))) go ≡ by_front front (provided m (both (and_so w (λ x. and_so o (λ xs. Some (t.More x xs)))) q))
before_more None true o q front go h = refl
before_more None false o q front go h = refl
before_more (Some x) true (Some xs) (Some ys) front go h = h (with_last front.0 x, front.1) ∙ ap (λ z. Some (z, joined front.1 ys)) (joined_last front.0 x xs)
before_more (Some x) true (Some xs) None front go h = h (with_last front.0 x, front.1)
before_more (Some x) true None q front go h = h (with_last front.0 x, front.1)
before_more (Some x) false o q front go h = h (with_last front.0 x, front.1)

-- a postcondition first
behind_more : (w : Option t.Exp) (m : Bool) (o q : Option t.Exps) (front : Both) (go : Both → Option Both) → ((f : Both) → go f ≡ by_front f (provided m (both o q)))
    → and_so (and_so w (λ y. Some (front.0, with_last front.1 y))) go ≡ by_front front (provided m (both o (and_so w (λ y. and_so q (λ ys. Some (t.More y ys))))))
behind_more None true None q front go h = refl
behind_more None true (Some xs) q front go h = refl
behind_more None false o q front go h = refl
behind_more (Some y) true (Some xs) (Some ys) front go h = h (front.0, with_last front.1 y) ∙ ap (λ z. Some (joined front.0 xs, z)) (joined_last front.1 y ys)
behind_more (Some y) true (Some xs) None front go h = h (front.0, with_last front.1 y)
behind_more (Some y) true None q front go h = h (front.0, with_last front.1 y)
behind_more (Some y) false o q front go h = h (front.0, with_last front.1 y)

module _ (env : Environment) (before behind : Context) where
  added_is : (specs : List s.Spec) (front : Both) → specs_added env before behind specs front ≡ by_front front (contract_of env before behind specs)
  added_is [] front = front_alone front
  added_is (x ∷ rest) front = at (role_of x) (added_is rest)
    where
      at : (r : Role) → ((f : Both) → specs_added env before behind rest f ≡ by_front f (contract_of env before behind rest))
          → and_so (condition_added env before behind r (condition_of x) front) (specs_added env before behind rest)
          ≡ by_front front (provided ((same_role Precondition r || same_role Postcondition r) && are_contracts rest) (both
          (elim (same_role Precondition r) [
            | true ↦ and_so (wanted env BoolType (typed_expression env before (condition_of x))) (λ y. and_so (conditions env Precondition before rest) (λ ys. Some (t.More y ys)))
            | false ↦ conditions env Precondition before rest
          ])
          (elim (same_role Postcondition r) [
            | true ↦ and_so (wanted env BoolType (typed_expression env behind (condition_of x))) (λ y. and_so (conditions env Postcondition behind rest) (λ ys. Some (t.More y ys)))
            | false ↦ conditions env Postcondition behind rest
          ])))
      at Precondition h = before_more (wanted env BoolType (typed_expression env before (condition_of x))) (are_contracts rest) (conditions env Precondition before rest) (conditions env Postcondition behind rest) front (specs_added env before behind rest) h
      at Postcondition h = behind_more (wanted env BoolType (typed_expression env behind (condition_of x))) (are_contracts rest) (conditions env Precondition before rest) (conditions env Postcondition behind rest) front (specs_added env before behind rest) h
      at Invariant h = refl
      at Assertion h = refl

  -- from the first spec on
  pub added_all : (specs : List s.Spec) → specs_added env before behind specs (t.NoExp, t.NoExp) ≡ contract_of env before behind specs
  added_all specs = added_is specs (t.NoExp, t.NoExp) ∙ no_front (contract_of env before behind specs)

  -- specs in two parts
  two_parts : (a b : List s.Spec) (front : Both) → specs_added env before behind (a ++ b) front ≡ and_so (specs_added env before behind a front) (specs_added env before behind b)
  two_parts [] b front = refl
  two_parts (x ∷ a) b front = at (condition_added env before behind (role_of x) (condition_of x) front) (two_parts a b)
    where
      at : (o : Option Both) → ((f : Both) → specs_added env before behind (a ++ b) f ≡ and_so (specs_added env before behind a f) (specs_added env before behind b))
          → and_so o (specs_added env before behind (a ++ b)) ≡ and_so (and_so o (specs_added env before behind a)) (specs_added env before behind b)
      at None later = refl
      at (Some f) later = later f

  -- ---- one spec

  module _ (x : n.Spec) (clause : Clause) (is : x.kind ≡ p.Contract clause) where
    spec_is : (front : Both) → condition_added env before behind (role_of (spec_of x)) (condition_of (spec_of x)) front ≡ condition_added env before behind (clause_role clause) (expression_of x.condition) front
    spec_is front =
        ap (λ r. condition_added env before behind r (condition_of (spec_of x)) front) (role_of_clause x clause is)
        ∙ ap (λ e. condition_added env before behind (clause_role clause) e front) (condition_is x)

  pub requires_more : (x : n.Spec) → x.kind ≡ p.Contract c.Requires → (texts : List Name) (xs : List Expression) (ys : t.Exps) (found : Expression)
      → wanted env BoolType (typed_expression env before (expression_of x.condition)) ≡ Some (exp_of texts found)
      → condition_added env before behind (role_of (spec_of x)) (condition_of (spec_of x)) (exps_of texts xs, ys) ≡ Some (exps_of texts (xs ++ found ∷ []), ys)
  requires_more x is texts xs ys found h =
      spec_is x c.Requires is (exps_of texts xs, ys)
      ∙ ap (λ o. and_so o (λ e. Some (with_last (exps_of texts xs) e, ys))) h
      ∙ ap (λ z. Some (z, ys)) (sym (exps_push texts xs found))

  -- where `ensures` stand the same is declared
  module _ (x : n.Spec) (is : x.kind ≡ p.Contract c.Ensures) (other : Environment) (same : other ≡ env) where
    pub ensures_more : (texts names : List Name) → names ≡ texts → (xs : t.Exps) (ys : List Expression) (found : Expression)
        → wanted other BoolType (typed_expression other behind (expression_of x.condition)) ≡ Some (exp_of names found)
        → condition_added env before behind (role_of (spec_of x)) (condition_of (spec_of x)) (xs, exps_of texts ys) ≡ Some (xs, exps_of texts (ys ++ found ∷ []))
    ensures_more texts names equal xs ys found h =
        spec_is x c.Ensures is (xs, exps_of texts ys)
        ∙ ap (λ z. and_so (wanted z BoolType (typed_expression z behind (expression_of x.condition))) (λ e. Some (xs, with_last (exps_of texts ys) e))) (sym same)
        ∙ ap (λ o. and_so o (λ e. Some (xs, with_last (exps_of texts ys) e))) h
        ∙ ap (λ z. Some (xs, with_last (exps_of texts ys) (exp_of z found))) equal
        ∙ ap (λ z. Some (xs, z)) (sym (exps_push texts ys found))

    pub ensures_none : {K : Type 0} (front : Both) → K ⊎ (wanted other BoolType (typed_expression other behind (expression_of x.condition)) ≡ None) → K ⊎ (condition_added env before behind (role_of (spec_of x)) (condition_of (spec_of x)) front ≡ None)
    ensures_none front (inl h) = inl h
    ensures_none front (inr h) = inr (
        spec_is x c.Ensures is front
        ∙ ap (λ z. and_so (wanted z BoolType (typed_expression z behind (expression_of x.condition))) (λ e. Some (front.0, with_last front.1 e))) (sym same)
        ∙ ap (λ o. and_so o (λ e. Some (front.0, with_last front.1 e))) h)

    pub ensures_cause : {K : Type 0} (f : Fault) → K ⊎ InCondition other f behind x.condition → K ⊎ InContractSpec env before behind f x
    ensures_cause f (inl h) = inl h
    ensures_cause f (inr h) = inr (inr (inr (ap (same_role Postcondition) (role_of_clause x c.Ensures is), subst (λ z. InCondition z f behind x.condition) same h)))

  -- ---- a turn of the loop over specs, and its end

  module _ (total : Option Both) (front : Both) (xs : List n.Spec) (i : ℕ) (so_far : specs_added env before behind (map spec_of (drop i xs)) front ≡ total) where
    pub specs_done : length xs ≤ i → total ≡ Some front
    specs_done l = sym so_far ∙ at_drop_all (λ z. specs_added env before behind (map spec_of z) front) xs i l

    module _ (x : n.Spec) (l : i < length xs) (is : x ≡ get_or xs i x) where
      spec_first : and_so (condition_added env before behind (role_of (spec_of x)) (condition_of (spec_of x)) front) (specs_added env before behind (map spec_of (drop (i + 1) xs))) ≡ total
      spec_first = sym (ap (λ z. specs_added env before behind (map spec_of z) front) (rest_from xs i x l is)) ∙ so_far

      pub spec_more : (next : Both) → condition_added env before behind (role_of (spec_of x)) (condition_of (spec_of x)) front ≡ Some next → specs_added env before behind (map spec_of (drop (i + 1) xs)) next ≡ total
      spec_more next e = ap (λ o. and_so o (specs_added env before behind (map spec_of (drop (i + 1) xs)))) (sym e) ∙ spec_first

      pub spec_none : {K : Type 0} → K ⊎ (condition_added env before behind (role_of (spec_of x)) (condition_of (spec_of x)) front ≡ None) → K ⊎ (total ≡ None)
      spec_none (inl h) = inl h
      spec_none (inr e) = inr (sym spec_first ∙ ap (λ o. and_so o (specs_added env before behind (map spec_of (drop (i + 1) xs)))) e)

  -- ---- the same of annotations

  module _ (total : Option Both) (front : Both) (xs : List Annotation) (i : ℕ) (so_far : specs_added env before behind (specs_in (map annotation_of (drop i xs))) front ≡ total) where
    pub notes_done : length xs ≤ i → total ≡ Some front
    notes_done l = sym so_far ∙ at_drop_all (λ z. specs_added env before behind (specs_in (map annotation_of z)) front) xs i l

    module _ (x : Annotation) (l : i < length xs) (is : x ≡ get_or xs i x) where
      note_first : and_so (specs_added env before behind (map spec_of x.specs.items) front) (specs_added env before behind (specs_in (map annotation_of (drop (i + 1) xs)))) ≡ total
      note_first =
          sym (two_parts (map spec_of x.specs.items) (specs_in (map annotation_of (drop (i + 1) xs))) front)
          ∙ sym (ap (λ z. specs_added env before behind (specs_in (map annotation_of z)) front) (rest_from xs i x l is)) ∙ so_far

      pub note_more : (next : Both) → specs_added env before behind (map spec_of x.specs.items) front ≡ Some next → specs_added env before behind (specs_in (map annotation_of (drop (i + 1) xs))) next ≡ total
      note_more next e = ap (λ o. and_so o (specs_added env before behind (specs_in (map annotation_of (drop (i + 1) xs))))) (sym e) ∙ note_first

      pub note_none : {K : Type 0} → K ⊎ (specs_added env before behind (map spec_of x.specs.items) front ≡ None) → K ⊎ (total ≡ None)
      note_none (inl h) = inl h
      note_none (inr e) = inr (sym note_first ∙ ap (λ o. and_so o (specs_added env before behind (specs_in (map annotation_of (drop (i + 1) xs))))) e)

  -- ---- causes

  pub spec_cause : {K : Type 0} (f : Fault) (xs : List n.Spec) (i : ℕ) (x : n.Spec) → i < length xs → x ≡ get_or xs i x → K ⊎ InContractSpec env before behind f x → K ⊎ InContract f env before behind xs
  spec_cause f xs i x l e (inl h) = inl h
  spec_cause f xs i x l e (inr h) = inr (at_place (InContractSpec env before behind f) (InContract f env before behind) first (λ z zs q. inr (inr (inr q))) xs i x l e h)
    where
      first : (z : n.Spec) (zs : List n.Spec) → InContractSpec env before behind f z → InContract f env before behind (z ∷ zs)
      first z zs (inl a) = inl a
      first z zs (inr (inl b)) = inr (inl b)
      first z zs (inr (inr c)) = inr (inr (inl c))

  pub note_cause : {K : Type 0} (f : Fault) (xs : List Annotation) (i : ℕ) (x : Annotation) → i < length xs → x ≡ get_or xs i x → K ⊎ InContract f env before behind x.specs.items → K ⊎ InContracts f env before behind xs
  note_cause f xs i x l e (inl h) = inl h
  note_cause f xs i x l e (inr h) = inr (at_place (λ z. InContract f env before behind z.specs.items) (InContracts f env before behind) (λ z zs q. inl q) (λ z zs q. inr q) xs i x l e h)

-- ---- texts

pub spec_has : (texts : List Name) (xs : List n.Spec) (i : ℕ) (x : n.Spec) → i < length xs → x ≡ get_or xs i x → SpecsHaveTexts texts (map spec_of xs) → HasTexts texts (condition_of (spec_of x))
spec_has texts [] i x l e h = absurd (omega arith)
spec_has texts (y ∷ xs) zero x l e h = subst (λ z. HasTexts texts (condition_of (spec_of z))) (sym e) h.0
spec_has texts (y ∷ xs) (suc i) x l e h = spec_has texts xs i x (omega arith) e h.1

have_left : (texts : List Name) (a b : List s.Spec) → SpecsHaveTexts texts (a ++ b) → SpecsHaveTexts texts a
have_left texts [] b h = tt
have_left texts (x ∷ a) b h = (h.0, have_left texts a b h.1)

have_right : (texts : List Name) (a b : List s.Spec) → SpecsHaveTexts texts (a ++ b) → SpecsHaveTexts texts b
have_right texts [] b h = h
have_right texts (x ∷ a) b h = have_right texts a b h.1

pub note_has : (texts : List Name) (xs : List Annotation) (i : ℕ) (x : Annotation) → i < length xs → x ≡ get_or xs i x → SpecsHaveTexts texts (specs_in (map annotation_of xs)) → SpecsHaveTexts texts (map spec_of x.specs.items)
note_has texts [] i x l e h = absurd (omega arith)
note_has texts (y ∷ xs) zero x l e h = subst (λ z. SpecsHaveTexts texts (annotation_of z)) (sym e) (have_left texts (annotation_of y) (specs_in (map annotation_of xs)) h)
note_has texts (y ∷ xs) (suc i) x l e h = note_has texts xs i x (omega arith) e (have_right texts (annotation_of y) (specs_in (map annotation_of xs)) h)
