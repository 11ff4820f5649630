-- Places by their forms: what stands there as a value, and what is no place.
use Rattle.std.proofs.Common.{◌≡◌, refl, sym, subst, Bool, true, false, Some, inl, inr, Result, Ok, Err}
use Rattle.std.specs.Prelude.{◌⊎◌, IfErr, IfOk}
use Rattle.std.specs.declared.alloc.Global.{Global}
use Rattle.std.specs.declared.boxed.Box.{Box}
use Rattle.c0_source.specs.declared.fault.Fault.{Fault}
use Rattle.c0_source.specs.declared.fault.FaultKind.TheVariants as k
use Rattle.c0_source.specs.declared.fault.Span.{Span}
use Rattle.c0_syntax.specs.declared.expression.ExpressionKind.{ExpressionKind, Index', Field', PointerField'}
use Rattle.c0_syntax.specs.declared.expression.ExpressionKind.TheViews.{Unary}
use Rattle.c0_syntax.specs.declared.expression.Expression.{Expression}
use Rattle.c0_syntax.specs.declared.operator.PrefixOperator.{PrefixOperator}
use Rattle.c0_syntax.specs.declared.operator.PrefixOperator.TheVariants as p
use Rattle.c0_syntax.specs.Views.{expression_of_kind}
use Rattle.c0_rules.specs.Types.{Environment, is_small}
use Rattle.c0_rules.specs.Expressions.{Typing, Place, Context, typed_expression, typed_place}
use Rattle.c0_rules.specs.FaultExpressions.{AsPlace, AsValue, InExpression, Told}
use Rattle.c0_rules.specs.Answers.{Answers}
use Rattle.c0_types_expressions.specs.Forms.{has_form}
use Rattle.c0_types_terms.specs.Terms.{valued}
use Rattle.c0_types_expressions.proofs.FormAnswers.{fault_there, value_there}
use Rattle.c0_types_terms.proofs.Causes.{causes}
use Rattle.c0_types_expressions.proofs.Operands.{valued_is}

-- whether an expression is an element or a field
abbrev pub is_part : ExpressionKind → Bool
is_part (Index' q a here z i there) = true
is_part (Field' q e here x) = true
is_part (PointerField' q e here x) = true
is_part _ = false

-- of all operators, only `*` leads to a place
pub only_star : (op : PrefixOperator) (operand : Box Expression Global) → has_form (Unary op operand) ≡ true → op ≡ p.Dereference
only_star p.Dereference operand h = refl
only_star _ operand h = absurd (cc h)

module _ (env : Environment) (at : Context) where
  -- the value of an element or a field must be small
  part_large : (f : Fault) (e : ExpressionKind) (span : Span) → is_part e ≡ true → (q : Place) → typed_place env at (expression_of_kind e) ≡ Some q → (is_small q.resolved ≡ false) × Told k.NotSmall span f
      → InExpression env at f AsValue e span
  part_large f (Index' q a here z i there) span h place is k = inr (inl (place, is, k.0, k.1))
  part_large f (Field' q e here x) span h place is k = inr (inl (place, is, k.0, k.1))
  part_large f (PointerField' q e here x) span h place is k = inr (inl (place, is, k.0, k.1))
  part_large f _ span h place is k = absurd (cc h)

  pub part_read : {T : Type 0} (r : Result T Fault) (e : ExpressionKind) (span : Span) → is_part e ≡ true → (q : Place) → typed_place env at (expression_of_kind e) ≡ Some q
      → IfErr r (λ f. (f.kind ≡ k.OutOfMemory) ⊎ ((is_small q.resolved ≡ false) × Told k.NotSmall span f)) → IfErr r (λ f. (f.kind ≡ k.OutOfMemory) ⊎ InExpression env at f AsValue e span)
  part_read r e span is q there h =
      causes r (λ f. (is_small q.resolved ≡ false) × Told k.NotSmall span f) (λ f. InExpression env at f AsValue e span) (λ f told. part_large f e span is q there told) h

  -- ---- a value where a place is needed

  pub not_there : {T : Type 0} (view : T → Typing) (r : Result T Fault) (g : Fault) (e : ExpressionKind) (span whole : Span) → has_form e ≡ false → Answers view r (valued (typed_expression env at (expression_of_kind e)))
      → IfErr r (λ f. (f.kind ≡ k.OutOfMemory) ⊎ InExpression env at f AsValue e span) → IfErr r (λ f. g ≡ f) → IfOk r (λ x. Told k.TypeMismatch whole g) → (g.kind ≡ k.OutOfMemory) ⊎ InExpression env at g (AsPlace whole) e span
  not_there view (Ok x) g e span whole form is cause same told = let q = valued_is (typed_expression env at (expression_of_kind e)) (view x) is in inr (value_there env at g e span whole form (view x, q.0, q.1, told))
  not_there view (Err f) g e span whole form is cause same told = subst (λ z. (z.kind ≡ k.OutOfMemory) ⊎ InExpression env at z (AsPlace whole) e span) (sym same) (of_value cause)
    where
      of_value : (f.kind ≡ k.OutOfMemory) ⊎ InExpression env at f AsValue e span → (f.kind ≡ k.OutOfMemory) ⊎ InExpression env at f (AsPlace whole) e span
      of_value (inl h) = inl h
      of_value (inr h) = inr (fault_there env at f e span whole form h)
