-- What parts of a program name, seen from the front.
use Rattle.std.proofs.Common.{◌≡◌, List, [], ◌∷◌, ◌++◌, map, refl, sym, ap, ◌∙◌}
use mathlib.Core.List.{append_assoc}
use Rattle.c0_syntax.specs.declared.statement.SpecKind.{SpecKind}
use Rattle.c0_syntax.specs.declared.statement.SpecKind.TheVariants as k
use Rattle.c0_syntax.specs.declared.statement.Spec.{Spec}
use Rattle.c0_syntax.specs.declared.statement.Annotation.{Annotation}
use Rattle.c0_syntax.specs.Trees as t
use Rattle.c0_syntax.specs.Views.{expression_of, spec_by, spec_of, annotation_of}
use Rattle.c0_rules.specs.Mentions.{mentions, condition_of, spec_mentions, specs_in}

condition_by : (kind : SpecKind) (e : t.Expression) → condition_of (spec_by kind e) ≡ e
condition_by (k.Contract clause) e = refl
condition_by k.Assert e = refl

-- the condition of a spec as code holds it
pub condition_same : (x : Spec) → condition_of (spec_of x) ≡ expression_of x.condition
condition_same x = condition_by x.kind (expression_of x.condition)

-- what a first spec names, and what the others do
pub spec_split : (x : Spec) (xs : List Spec) → spec_mentions (map spec_of (x ∷ xs)) ≡ mentions (expression_of x.condition) ++ spec_mentions (map spec_of xs)
spec_split x xs = ap (λ e. mentions e ++ spec_mentions (map spec_of xs)) (condition_same x)

spec_mentions_append : (xs ys : List t.Spec) → spec_mentions (xs ++ ys) ≡ spec_mentions xs ++ spec_mentions ys
spec_mentions_append [] ys = refl
spec_mentions_append (x ∷ xs) ys =
    ap (λ z. mentions (condition_of x) ++ z) (spec_mentions_append xs ys) ∙ sym (append_assoc (mentions (condition_of x)) (spec_mentions xs) (spec_mentions ys))

-- the same of annotations
pub annotation_split : (x : Annotation) (xs : List Annotation)
    → spec_mentions (specs_in (map annotation_of (x ∷ xs))) ≡ spec_mentions (map spec_of x.specs.items) ++ spec_mentions (specs_in (map annotation_of xs))
annotation_split x xs = spec_mentions_append (map spec_of x.specs.items) (specs_in (map annotation_of xs))
