-- Expressions as statements, whose values are not used.
use Rattle.std.proofs.Common.{◌≡◌, refl, ap, sym, subst, ◌∙◌, Bool, true, false, Option, Some, None, inl, inr, Result}
use Rattle.std.specs.Prelude.{◌⊎◌, ◌&&◌, ◌||◌}
use Rattle.std.specs.declared.vec.Vec.{Vec}
use Rattle.std.specs.declared.alloc.Global.{Global}
use Rattle.c0_source.specs.declared.fault.Fault.{Fault}
use Rattle.c0_source.specs.declared.fault.Span.{Span}
use Rattle.c0_syntax.specs.declared.expression.Expression.{Expression}
use Rattle.c0_syntax.specs.declared.expression.ExpressionKind.{ExpressionKind, Call'}
use Rattle.c0_syntax.specs.declared.expression.ExpressionKind.TheViews.{Call}
use Rattle.c0_syntax.specs.declared.name.Name as n
use Rattle.c0_syntax.specs.Trees as s
use Rattle.c0_syntax.specs.Views.{expression_of_kind}
use Rattle.c0_typed.specs.Trees as t
use Rattle.c0_rules.specs.Types.{Environment, ResolvedType, VoidType, and_so, is_small, provided, same_type}
use Rattle.c0_rules.specs.Expressions.{Typing, Has, IsNull, Context, typed_expression}
use Rattle.c0_rules.specs.FaultExpressions.{AsValue, InExpression, is_value}
use Rattle.c0_rules.specs.FaultStatements.{InEvaluated}
use Rattle.c0_rules.specs.Statements.{Scope, evaluated, within, is_call}
use Rattle.c0_rules.specs.Answers.{Answers}
use Rattle.c0_types_expressions.specs.Forms.{CalledCause, InAmong, discarded}
use Rattle.c0_types_terms.specs.Terms.{valued}
use Rattle.c0_types_expressions.proofs.ArgumentLists.{call_evaluated}
use Rattle.c0_types_expressions.proofs.FormAnswers.{then_answers}
use Rattle.c0_types_expressions.proofs.Operands.{valued_is}
use Rattle.c0_types_expressions.proofs.Refusals.{refused}

void_same : (a : ResolvedType) → same_type a VoidType ≡ same_type VoidType a
void_same VoidType = refl
void_same _ = refl

neither : (b c : Bool) → c ≡ false → (b && c) ≡ false
neither true c h = h
neither false c h = refl

not_void : (a : ResolvedType) (y : t.Exp) → is_value (Has a y) ≡ true → same_type VoidType a ≡ false
not_void VoidType y h = absurd (cc h)
not_void _ y h = refl

module _ (env : Environment) where
  -- of a call, and of what has a value, no more is asked than that it can be discarded
  of_call : (e : s.Expression) (x : Typing) → is_call e ≡ true → evaluated env e x ≡ discarded x
  of_call e (Has a y) h = ap (λ b. provided (is_small a || b) (Some y)) (ap (λ b. b && same_type a VoidType) h ∙ void_same a)
  of_call e (IsNull y) h = refl

  of_value : (e : s.Expression) (x : Typing) → is_value x ≡ true → evaluated env e x ≡ discarded x
  of_value e (Has a y) h =
      let none = not_void a y h in
      ap (λ b. provided (is_small a || b) (Some y)) (neither (is_call e) (same_type a VoidType) (void_same a ∙ none) ∙ sym none)
  of_value e (IsNull y) h = refl

  module _ (at : Context) where
    abbrev outcome : s.Expression → Option t.Exp
    outcome e = and_so (typed_expression env at e) (evaluated env e)

    pub call_discarded : {T : Type 0} (view : T → t.Exp) (r : Result T Fault) (e : s.Expression) (x : Typing) → is_call e ≡ true → typed_expression env at e ≡ Some x → Answers view r (discarded x) → Answers view r (outcome e)
    call_discarded view r e x is typed h = then_answers view r (typed_expression env at e) (evaluated env e) x typed (subst (Answers view r) (sym (of_call e x is)) h)

    pub value_discarded : {T : Type 0} (view : T → t.Exp) (r : Result T Fault) (e : s.Expression) (x : Typing) → valued (typed_expression env at e) ≡ Some x → Answers view r (discarded x) → Answers view r (outcome e)
    value_discarded view r e x typed h =
        let q = valued_is (typed_expression env at e) x typed in
        then_answers view r (typed_expression env at e) (evaluated env e) x q.0 (subst (Answers view r) (sym (of_value e x q.1)) h)

    pub none_discarded : {K : Type 0} (e : s.Expression) → is_call e ≡ false → K ⊎ (valued (typed_expression env at e) ≡ None) → K ⊎ (outcome e ≡ None)
    none_discarded e is h = refused (typed_expression env at e) (evaluated env e) (λ y. ap (λ b. provided (b && true) (Some y)) is) h

  module _ (f : Fault) (scope : Scope) (at : Context) where
    value_evaluated : (e : ExpressionKind) (span : Span) → is_call (expression_of_kind e) ≡ false → InExpression env (within scope) f AsValue e span → InEvaluated env f scope e span
    value_evaluated (Call' x shape es) span is h = absurd (cc is)
    value_evaluated _ span is h = h

    pub value_told : {K : Type 0} (e : ExpressionKind) (span : Span) → within scope ≡ at → is_call (expression_of_kind e) ≡ false → K ⊎ InExpression env at f AsValue e span → K ⊎ InEvaluated env f scope e span
    value_told e span same is (inl h) = inl h
    value_told e span same is (inr h) = inr (value_evaluated e span is (subst (λ z. InExpression env z f AsValue e span) (sym same) h))

    pub call_evaluated_told : {K : Type 0} (x : n.Name) (all : Vec Expression Global) (span : Span) → within scope ≡ at → K ⊎ CalledCause env at f x all.items span ⊎ InAmong env at f all.items → K ⊎ InEvaluated env f scope (Call x all) span
    call_evaluated_told x all span same (inl h) = inl h
    call_evaluated_told x all span same (inr h) = inr (call_evaluated env scope f x all span (subst (λ z. CalledCause env z f x all.items span ⊎ InAmong env z f all.items) (sym same) h))
