-- Annotations in which a fault has its cause.
use Rattle.std.proofs.Common.{◌≡◌, ◌⊎◌, inl, inr, List, [], ◌∷◌, ◌++◌, refl, sym, subst, Bool, true, false, Option, Some, None}
use Rattle.std.specs.Prelude.{◌&&◌, map}
use Rattle.c0_source.specs.declared.fault.Fault.{Fault}
use Rattle.c0_syntax.specs.declared.expression.Expression as e
use Rattle.c0_syntax.specs.declared.statement.SpecKind.{SpecKind}
use Rattle.c0_syntax.specs.declared.statement.SpecKind.TheVariants as k
use Rattle.c0_syntax.specs.declared.statement.Spec as p
use Rattle.c0_syntax.specs.declared.statement.Annotation.{Annotation}
use Rattle.c0_syntax.specs.Trees as s
use Rattle.c0_syntax.specs.Views.{expression_of, spec_by, spec_of, annotation_of}
use Rattle.c0_typed.specs.Trees as t
use Rattle.c0_rules.specs.Types.{and_so, BoolType, Environment}
use Rattle.c0_rules.specs.Mentions.{condition_of, specs_in}
use Rattle.c0_rules.specs.Expressions.{Context, wanted, typed_expression}
use Rattle.c0_rules.specs.Statements.{Role, role_of, same_role, all_are, conditions, conditions_of_all}
use Rattle.c0_rules.specs.FaultStatements.{InCondition, InSpecs, InAnnotations}
use Rattle.c0_rules_faults.proofs.Refused.{and_none, and_each, provided_none, provided_false, and_false, false_and, wanted_none}
use Rattle.c0_rules_faults.proofs.Expressions.{TakeSmall, mistyped, value}

-- the condition of a spec is that of its tree
pub spec_condition : (x : p.Spec) → condition_of (spec_of x) ≡ expression_of x.condition
spec_condition x = by_kind x.kind (expression_of x.condition)
  where
    by_kind : (kind : SpecKind) (e : s.Expression) → condition_of (spec_by kind e) ≡ e
    by_kind (k.Contract clause) e = refl
    by_kind k.Assert e = refl

-- the conditions of a spec and of those behind it, by whether it has the role
abbrev pub chained : Bool → Option t.Exp → Option t.Exps → Option t.Exps
chained b o rest = elim b [ true ↦ and_so o (λ x. and_so rest (λ xs. Some (t.More x xs))) | false ↦ rest ]

head_none : (b : Bool) (o : Option t.Exp) (rest : Option t.Exps) → o ≡ None → (b ≡ false) ⊎ (chained b o rest ≡ None)
head_none true o rest q = inr (and_none _ _ q)
head_none false o rest q = inl refl

tail_none : (b : Bool) (o : Option t.Exp) (rest : Option t.Exps) → rest ≡ None → chained b o rest ≡ None
tail_none true o rest q = and_each o _ (λ x r. and_none _ _ q)
tail_none false o rest q = q

front_none : (b : Bool) (o : Option t.Exp) (rest more : Option t.Exps) → (rest ≡ None → more ≡ None) → chained b o rest ≡ None → chained b o more ≡ None
front_none true None rest more go q = refl
front_none true (Some x) None more go q = and_none _ _ (go refl)
front_none true (Some x) (Some xs) more go q = absurd (cc q)
front_none false o rest more go q = go q

false_front : (b rest more : Bool) → (rest ≡ false → more ≡ false) → (b && rest) ≡ false → (b && more) ≡ false
false_front true rest more go q = go q
false_front false rest more go q = refl

all_front : (role : Role) (xs ys : List s.Spec) → all_are role xs ≡ false → all_are role (xs ++ ys) ≡ false
all_front role [] ys q = absurd (cc q)
all_front role (x ∷ xs) ys q = false_front (same_role role (role_of x)) (all_are role xs) (all_are role (xs ++ ys)) (all_front role xs ys) q

all_back : (role : Role) (xs ys : List s.Spec) → all_are role ys ≡ false → all_are role (xs ++ ys) ≡ false
all_back role [] ys q = q
all_back role (x ∷ xs) ys q = and_false (same_role role (role_of x)) (all_are role (xs ++ ys)) (all_back role xs ys q)

module _ (env : Environment) (fault : Fault) (small : TakeSmall env) where
  pub conditions_front : (role : Role) (at : Context) (xs ys : List s.Spec) → conditions env role at xs ≡ None → conditions env role at (xs ++ ys) ≡ None
  conditions_front role at [] ys q = absurd (cc q)
  conditions_front role at (x ∷ xs) ys q =
      front_none (same_role role (role_of x)) (wanted env BoolType (typed_expression env at (condition_of x))) (conditions env role at xs) (conditions env role at (xs ++ ys))
      (conditions_front role at xs ys) q

  pub conditions_back : (role : Role) (at : Context) (xs ys : List s.Spec) → conditions env role at ys ≡ None → conditions env role at (xs ++ ys) ≡ None
  conditions_back role at [] ys q = q
  conditions_back role at (x ∷ xs) ys q =
      tail_none (same_role role (role_of x)) (wanted env BoolType (typed_expression env at (condition_of x))) (conditions env role at (xs ++ ys)) (conditions_back role at xs ys q)

  pub condition_none : (at : Context) (c : e.Expression) → InCondition env fault at c → wanted env BoolType (typed_expression env at (expression_of c)) ≡ None
  condition_none at c (inl h) = wanted_none env BoolType _ refl (value env at fault small c.kind c.span h)
  condition_none at c (inr h) = mistyped env at fault small BoolType c.kind c.span h

  -- ... of a spec
  pub spec_none : (at : Context) (x : p.Spec) → InCondition env fault at x.condition → wanted env BoolType (typed_expression env at (condition_of (spec_of x))) ≡ None
  spec_none at x h = subst (λ c. wanted env BoolType (typed_expression env at c) ≡ None) (sym (spec_condition x)) (condition_none at x.condition h)

  -- where one spec has the role and a fault in its condition
  pub one_none : (role : Role) (at : Context) (x : p.Spec) (rest : List s.Spec) → same_role role (role_of (spec_of x)) ≡ true → InCondition env fault at x.condition → conditions env role at (spec_of x ∷ rest) ≡ None
  one_none role at x rest q h = subst (λ b. chained b (wanted env BoolType (typed_expression env at (condition_of (spec_of x)))) (conditions env role at rest) ≡ None) (sym q) (and_none _ _ (spec_none at x h))

  -- ... or one behind it
  pub later_none : (role : Role) (at : Context) (x : s.Spec) (rest : List s.Spec) → conditions env role at rest ≡ None → conditions env role at (x ∷ rest) ≡ None
  later_none role at x rest q = tail_none (same_role role (role_of x)) (wanted env BoolType (typed_expression env at (condition_of x))) (conditions env role at rest) q

  pub either_front : (role : Role) (at : Context) (xs ys : List s.Spec) → (all_are role xs ≡ false) ⊎ (conditions env role at xs ≡ None) → (all_are role (xs ++ ys) ≡ false) ⊎ (conditions env role at (xs ++ ys) ≡ None)
  either_front role at xs ys (inl q) = inl (all_front role xs ys q)
  either_front role at xs ys (inr q) = inr (conditions_front role at xs ys q)

  pub either_back : (role : Role) (at : Context) (xs ys : List s.Spec) → (all_are role ys ≡ false) ⊎ (conditions env role at ys ≡ None) → (all_are role (xs ++ ys) ≡ false) ⊎ (conditions env role at (xs ++ ys) ≡ None)
  either_back role at xs ys (inl q) = inl (all_back role xs ys q)
  either_back role at xs ys (inr q) = inr (conditions_back role at xs ys q)

  specs : (role : Role) (at : Context) (xs : List p.Spec) → InSpecs env fault role at xs → (all_are role (map spec_of xs) ≡ false) ⊎ (conditions env role at (map spec_of xs) ≡ None)
  specs role at [] h = absurd h
  specs role at (x ∷ rest) (inl h) = inl (false_and (same_role role (role_of (spec_of x))) (all_are role (map spec_of rest)) h.0)
  specs role at (x ∷ rest) (inr (inl h)) =
      elim (head_none (same_role role (role_of (spec_of x))) (wanted env BoolType (typed_expression env at (condition_of (spec_of x)))) (conditions env role at (map spec_of rest)) (spec_none at x h)) [
        | inl q ↦ inl (false_and (same_role role (role_of (spec_of x))) (all_are role (map spec_of rest)) q)
        | inr q ↦ inr q
      ]
  specs role at (x ∷ rest) (inr (inr h)) =
      elim (specs role at rest h) [
        | inl q ↦ inl (and_false (same_role role (role_of (spec_of x))) (all_are role (map spec_of rest)) q)
        | inr q ↦ inr (later_none role at (spec_of x) (map spec_of rest) q)
      ]

  annotations : (role : Role) (at : Context) (notes : List Annotation) → InAnnotations env fault role at notes
      → (all_are role (specs_in (map annotation_of notes)) ≡ false) ⊎ (conditions env role at (specs_in (map annotation_of notes)) ≡ None)
  annotations role at [] h = absurd h
  annotations role at (x ∷ rest) (inl h) = either_front role at (annotation_of x) (specs_in (map annotation_of rest)) (specs role at x.specs.items h)
  annotations role at (x ∷ rest) (inr h) = either_back role at (annotation_of x) (specs_in (map annotation_of rest)) (annotations role at rest h)

  all_refused : (role : Role) (at : Context) (xs : List s.Spec) → (all_are role xs ≡ false) ⊎ (conditions env role at xs ≡ None) → conditions_of_all env role at xs ≡ None
  all_refused role at xs (inl q) = provided_false (all_are role xs) (conditions env role at xs) q
  all_refused role at xs (inr q) = provided_none (all_are role xs) (conditions env role at xs) q

  pub specs_none : (role : Role) (at : Context) (xs : List p.Spec) → InSpecs env fault role at xs → conditions_of_all env role at (map spec_of xs) ≡ None
  specs_none role at xs h = all_refused role at (map spec_of xs) (specs role at xs h)

  pub annotations_none : (role : Role) (at : Context) (notes : List Annotation) → InAnnotations env fault role at notes → conditions_of_all env role at (specs_in (map annotation_of notes)) ≡ None
  annotations_none role at notes h = all_refused role at (specs_in (map annotation_of notes)) (annotations role at notes h)
