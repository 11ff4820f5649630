-- Annotations that are refused have a cause in them.
use Rattle.std.proofs.Common.{◌≡◌, ◌⊎◌, inl, inr, List, [], ◌∷◌, ◌++◌, refl, sym, subst, Bool, true, false, Option, Some, None}
use Rattle.std.specs.Prelude.{◌&&◌, map}
use Rattle.c0_source.specs.declared.fault.FaultKind.TheVariants as k
use Rattle.c0_syntax.specs.declared.expression.Expression as e
use Rattle.c0_syntax.specs.declared.statement.Spec as p
use Rattle.c0_syntax.specs.declared.statement.Annotation.{Annotation}
use Rattle.c0_syntax.specs.Trees as tree
use Rattle.c0_syntax.specs.Views.{expression_of, spec_of, annotation_of}
use Rattle.c0_typed.specs.Trees as t
use Rattle.c0_rules.specs.Types.{BoolType, Name, is_small, Environment}
use Rattle.c0_rules.specs.Mentions.{condition_of, specs_in}
use Rattle.c0_rules.specs.Expressions.{Context, local_of, wanted, typed_expression}
use Rattle.c0_rules.specs.Statements.{Role, role_of, same_role, all_are, conditions, conditions_of_all}
use Rattle.c0_rules.specs.FaultStatements.{InCondition, InSpecs, InAnnotations}
use Rattle.c0_rules.proofs.Rules.{AllSome}
use Rattle.c0_rules_faults.proofs.Causes.{Caused, told, split, split_if, split_and}
use Rattle.c0_rules_faults.proofs.ExpressionCauses.{both, wanted_cause}
use Rattle.c0_rules_faults.proofs.Specs.{chained, spec_condition}

pub chain_split : (b : Bool) (o : Option t.Exp) (rest : Option t.Exps) → chained b o rest ≡ None → ((b ≡ true) × (o ≡ None)) ⊎ (rest ≡ None)
chain_split true o rest h = elim (split o _ h) [ inl q ↦ inl (refl, q) | inr q ↦ elim (split rest _ q.2) [ inl w ↦ inr w | inr w ↦ absurd (cc w.2) ] ]
chain_split false o rest h = inr h

all_split : (role : Role) (xs ys : List tree.Spec) → all_are role (xs ++ ys) ≡ false → (all_are role xs ≡ false) ⊎ (all_are role ys ≡ false)
all_split role [] ys h = inr h
all_split role (x ∷ xs) ys h = by (same_role role (role_of x)) (all_split role xs ys) h
  where
    by : (b : Bool) → (all_are role (xs ++ ys) ≡ false → (all_are role xs ≡ false) ⊎ (all_are role ys ≡ false)) → (b && all_are role (xs ++ ys)) ≡ false → ((b && all_are role xs) ≡ false) ⊎ (all_are role ys ≡ false)
    by true go q = go q
    by false go q = inl refl

module _ (env : Environment) (at : Context) where
  pub conditions_split : (role : Role) (xs ys : List tree.Spec) → conditions env role at (xs ++ ys) ≡ None → (conditions env role at xs ≡ None) ⊎ (conditions env role at ys ≡ None)
  conditions_split role [] ys h = inr h
  conditions_split role (x ∷ xs) ys h =
      by (same_role role (role_of x)) (wanted env BoolType (typed_expression env at (condition_of x))) (conditions env role at xs) (conditions env role at (xs ++ ys)) (conditions_split role xs ys) h
    where
      by : (b : Bool) (o : Option t.Exp) (rest more : Option t.Exps) → (more ≡ None → (rest ≡ None) ⊎ (conditions env role at ys ≡ None)) → chained b o more ≡ None → (chained b o rest ≡ None) ⊎ (conditions env role at ys ≡ None)
      by true None rest more go q = inl refl
      by true (Some x) rest more go q = elim (split more _ q) [
        | inl w ↦ elim (go w) [ inl z ↦ inl (subst (λ o. chained true (Some x) o ≡ None) (sym z) refl) | inr z ↦ inr z ]
        | inr w ↦ absurd (cc w.2)
      ]
      by false o rest more go q = go q

  module _ (few : (x : Name) → AllSome (λ l. is_small l.resolved ≡ true) (local_of at.locals x)) (fine : AllSome (λ r. is_small r ≡ true) at.result) where
    pub condition_cause : (c : e.Expression) → wanted env BoolType (typed_expression env at (expression_of c)) ≡ None → Caused (λ f. InCondition env f at c)
    condition_cause c h = elim (wanted_cause env at BoolType c.kind c.span h) [ inl z ↦ (let f = (both env at few fine c.kind c.span).0 z in (f.0, inl f.1)) | inr m ↦ (m.0, inr m.1) ]

    -- ... of a spec
    pub spec_cause : (x : p.Spec) → wanted env BoolType (typed_expression env at (condition_of (spec_of x))) ≡ None → Caused (λ f. InCondition env f at x.condition)
    spec_cause x h = condition_cause x.condition (subst (λ c. wanted env BoolType (typed_expression env at c) ≡ None) (spec_condition x) h)

    roles_cause : (role : Role) (xs : List p.Spec) → all_are role (map spec_of xs) ≡ false → Caused (λ f. InSpecs env f role at xs)
    roles_cause role [] h = absurd (cc h)
    roles_cause role (x ∷ rest) h = elim (split_and (same_role role (role_of (spec_of x))) (all_are role (map spec_of rest)) h) [
      | inl q ↦ (let f = told k.BadContract x.word in (f.0, inl (q, f.1)))
      | inr q ↦ (let f = roles_cause role rest q in (f.0, inr (inr f.1)))
    ]

    conditions_cause : (role : Role) (xs : List p.Spec) → conditions env role at (map spec_of xs) ≡ None → Caused (λ f. InSpecs env f role at xs)
    conditions_cause role [] h = absurd (cc h)
    conditions_cause role (x ∷ rest) h = elim (chain_split (same_role role (role_of (spec_of x))) (wanted env BoolType (typed_expression env at (condition_of (spec_of x)))) (conditions env role at (map spec_of rest)) h) [
      | inl q ↦ (let f = spec_cause x q.1 in (f.0, inr (inl f.1)))
      | inr q ↦ (let f = conditions_cause role rest q in (f.0, inr (inr f.1)))
    ]

    pub specs_cause : (role : Role) (xs : List p.Spec) → conditions_of_all env role at (map spec_of xs) ≡ None → Caused (λ f. InSpecs env f role at xs)
    specs_cause role xs h = elim (split_if (all_are role (map spec_of xs)) _ h) [ inl q ↦ roles_cause role xs q | inr q ↦ conditions_cause role xs q.1 ]

    roles_in : (role : Role) (notes : List Annotation) → all_are role (specs_in (map annotation_of notes)) ≡ false → Caused (λ f. InAnnotations env f role at notes)
    roles_in role [] h = absurd (cc h)
    roles_in role (x ∷ rest) h = elim (all_split role (annotation_of x) (specs_in (map annotation_of rest)) h) [
      | inl q ↦ (let f = roles_cause role x.specs.items q in (f.0, inl f.1))
      | inr q ↦ (let f = roles_in role rest q in (f.0, inr f.1))
    ]

    conditions_in : (role : Role) (notes : List Annotation) → conditions env role at (specs_in (map annotation_of notes)) ≡ None → Caused (λ f. InAnnotations env f role at notes)
    conditions_in role [] h = absurd (cc h)
    conditions_in role (x ∷ rest) h = elim (conditions_split role (annotation_of x) (specs_in (map annotation_of rest)) h) [
      | inl q ↦ (let f = conditions_cause role x.specs.items q in (f.0, inl f.1))
      | inr q ↦ (let f = conditions_in role rest q in (f.0, inr f.1))
    ]

    pub annotations_cause : (role : Role) (notes : List Annotation) → conditions_of_all env role at (specs_in (map annotation_of notes)) ≡ None → Caused (λ f. InAnnotations env f role at notes)
    annotations_cause role notes h = elim (split_if (all_are role (specs_in (map annotation_of notes))) _ h) [ inl q ↦ roles_in role notes q | inr q ↦ conditions_in role notes q.1 ]
