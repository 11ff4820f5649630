-- What operands that have been typed lead to, form by form.
use Rattle.std.proofs.Common.{◌≡◌, refl, ap, sym, subst, false, Option, Some, None, inl, inr, Result}
use Rattle.c0_source.specs.declared.fault.Fault.{Fault}
use Rattle.c0_source.specs.declared.fault.Span.{Span}
use Rattle.c0_source.specs.declared.kind.Operator.{Operator}
use Rattle.c0_syntax.specs.declared.expression.ExpressionKind.{ExpressionKind, Number, Character, Truth, Null, Text, Variable, Parenthesized', Call', Alloc, AllocArray', Result as ResultOf, Length', Index', Field', PointerField', Unary', Binary', Conditional'}
use Rattle.c0_syntax.specs.declared.operator.PrefixOperator.{PrefixOperator}
use Rattle.c0_syntax.specs.declared.operator.PrefixOperator.TheVariants as p
use Rattle.c0_syntax.specs.Trees as s
use Rattle.c0_syntax.specs.Views.{expression_of_kind}
use Rattle.c0_typed.specs.Trees as t
use Rattle.c0_rules.specs.Types.{Environment, ResolvedType, IntType, BoolType, ArrayOf, and_so}
use Rattle.c0_rules.specs.Expressions.{Typing, Has, Context, OperatorRule, as_wanted, chosen, dereferenced, held_type, num, operated, operator_rule, prefixed, typed_expression, typed_place, wanted}
use Rattle.c0_rules.specs.FaultExpressions.{AsPlace, AsValue, InExpression, NoPlace}
use Rattle.c0_rules.specs.Answers.{Answers}
use Rattle.c0_types_expressions.specs.Forms.{has_form}
use Rattle.c0_types_places.specs.Places.{array_of}
use Rattle.c0_types_terms.specs.Terms.{valued}
use Rattle.c0_types_expressions.proofs.Operands.{valued_is}
use Rattle.c0_types_expressions.proofs.Refusals.{none_so}

pub then_answers : {T A B : Type 0} (view : T → B) (r : Result T Fault) (o : Option A) (go : A → Option B) (x : A) → o ≡ Some x → Answers view r (go x) → Answers view r (and_so o go)
then_answers view r o go x e h = subst (λ z. Answers view r (and_so z go)) (sym e) h

module _ (env : Environment) (at : Context) where
  abbrev typed : s.Expression → Option Typing
  typed e = typed_expression env at e

  is_typed : (e : s.Expression) (x : Typing) → valued (typed e) ≡ Some x → typed e ≡ Some x
  is_typed e x v = (valued_is (typed e) x v).0

  number_is : (e : s.Expression) (x : Typing) → valued (typed e) ≡ Some x → wanted env IntType (typed e) ≡ as_wanted env IntType x
  number_is e x v = ap (λ o. and_so o (as_wanted env IntType)) (is_typed e x v)

  module _ {T : Type 0} (view : T → Typing) (r : Result T Fault) where
    pub unary_answers : (op : PrefixOperator) (a : s.Expression) (x : Typing) → valued (typed a) ≡ Some x → Answers view r (prefixed env op x) → Answers view r (typed (s.Unary op a))
    unary_answers op a x v h = then_answers view r (typed a) (prefixed env op) x (is_typed a x v) h

    pub array_answers : (u : s.ValueType) (a : s.Expression) (h : ResolvedType) (x : Typing) → held_type env u ≡ Some h → valued (typed a) ≡ Some x → Answers view r (array_of env h x) → Answers view r (typed (s.AllocArray u a))
    array_answers u a h x e v k =
        then_answers view r (held_type env u) (λ h. and_so (wanted env IntType (typed a)) (λ n. Some (Has (ArrayOf h) (t.AllocArray (num env h) n)))) h e
        (subst (λ z. Answers view r (and_so z (λ n. Some (Has (ArrayOf h) (t.AllocArray (num env h) n))))) (sym (number_is a x v)) k)

    pub binary_answers : (op : Operator) (rule : OperatorRule) → rule ≡ operator_rule op → (a b : s.Expression) (x y : Typing) → valued (typed a) ≡ Some x → valued (typed b) ≡ Some y
        → Answers view r (operated env rule x y) → Answers view r (typed (s.Binary op a b))
    binary_answers op rule e a b x y v w h =
        then_answers view r (typed a) (λ x. and_so (typed b) (operated env (operator_rule op) x)) x (is_typed a x v)
        (then_answers view r (typed b) (operated env (operator_rule op) x) y (is_typed b y w) (subst (λ z. Answers view r (operated env z x y)) e h))

    pub conditional_answers : (c a b : s.Expression) (z : t.Exp) (x y : Typing) → wanted env BoolType (typed c) ≡ Some z → valued (typed a) ≡ Some x → valued (typed b) ≡ Some y
        → Answers view r (chosen env z x y) → Answers view r (typed (s.Conditional c a b))
    conditional_answers c a b z x y e v w h =
        then_answers view r (wanted env BoolType (typed c)) (λ z. and_so (typed a) (λ x. and_so (typed b) (chosen env z x))) z e
        (then_answers view r (typed a) (λ x. and_so (typed b) (chosen env z x)) x (is_typed a x v)
        (then_answers view r (typed b) (chosen env z x) y (is_typed b y w) h))

  -- ---- what has not the form of a place

  pub no_place : (e : ExpressionKind) → has_form e ≡ false → typed_place env at (expression_of_kind e) ≡ None
  no_place (Parenthesized' q e here) h = absurd (cc h)
  no_place (Index' q a here z i there) h = absurd (cc h)
  no_place (Field' q e here x) h = absurd (cc h)
  no_place (PointerField' q e here x) h = absurd (cc h)
  no_place (Unary' p.Dereference q e here) h = absurd (cc h)
  no_place (Unary' p.Not q e here) h = none_so (typed (expression_of_kind e)) (dereferenced env p.Not) (λ x. refl)
  no_place (Unary' p.Complement q e here) h = none_so (typed (expression_of_kind e)) (dereferenced env p.Complement) (λ x. refl)
  no_place (Unary' p.Negate q e here) h = none_so (typed (expression_of_kind e)) (dereferenced env p.Negate) (λ x. refl)
  no_place _ h = refl

  module _ (f : Fault) where
    -- a value where a place is needed
    pub value_there : (e : ExpressionKind) (span whole : Span) → has_form e ≡ false → NoPlace env at f (AsPlace whole) e span → InExpression env at f (AsPlace whole) e span
    value_there (Number m) span whole h k = k
    value_there (Character c) span whole h k = inr k
    value_there (Truth b) span whole h k = k
    value_there Null span whole h k = k
    value_there (Text text) span whole h k = k
    value_there (Variable x) span whole h k = inr k
    value_there (Call' x shape es) span whole h k = inr (inr (inl k))
    value_there (Alloc ty) span whole h k = inr k
    value_there (AllocArray' ty q e here) span whole h k = inr (inr (inl k))
    value_there ResultOf span whole h k = inr k
    value_there (Length' q e here) span whole h k = inr (inl k)
    value_there (Unary' p.Not q e here) span whole h k = inl (inr k)
    value_there (Unary' p.Complement q e here) span whole h k = inl (inr k)
    value_there (Unary' p.Negate q e here) span whole h k = inl (inr k)
    value_there (Binary' op q a here z b there) span whole h k = inr (inr (inr (inl k)))
    value_there (Conditional' q c here z a there w b beyond) span whole h k = inr (inr (inl k))
    value_there _ span whole h k = absurd (cc h)

    -- what is wrong with a value, where a place is needed
    pub fault_there : (e : ExpressionKind) (span whole : Span) → has_form e ≡ false → InExpression env at f AsValue e span → InExpression env at f (AsPlace whole) e span
    fault_there (Number m) span whole h k = absurd k
    fault_there (Character c) span whole h (inl k) = inl k
    fault_there (Character c) span whole h (inr k) = absurd k
    fault_there (Truth b) span whole h k = absurd k
    fault_there Null span whole h k = absurd k
    fault_there (Text text) span whole h k = absurd k
    fault_there (Variable x) span whole h (inl k) = inl k
    fault_there (Variable x) span whole h (inr k) = absurd k
    fault_there (Call' x shape es) span whole h (inl k) = inl k
    fault_there (Call' x shape es) span whole h (inr (inl k)) = inr (inl k)
    fault_there (Call' x shape es) span whole h (inr (inr (inl k))) = absurd k
    fault_there (Call' x shape es) span whole h (inr (inr (inr k))) = inr (inr (inr k))
    fault_there (Alloc ty) span whole h (inl k) = inl k
    fault_there (Alloc ty) span whole h (inr k) = absurd k
    fault_there (AllocArray' ty q e here) span whole h (inl k) = inl k
    fault_there (AllocArray' ty q e here) span whole h (inr (inl k)) = inr (inl k)
    fault_there (AllocArray' ty q e here) span whole h (inr (inr (inl k))) = absurd k
    fault_there (AllocArray' ty q e here) span whole h (inr (inr (inr k))) = inr (inr (inr k))
    fault_there ResultOf span whole h (inl k) = inl k
    fault_there ResultOf span whole h (inr k) = absurd k
    fault_there (Length' q e here) span whole h (inl k) = inl k
    fault_there (Length' q e here) span whole h (inr (inl k)) = absurd k
    fault_there (Length' q e here) span whole h (inr (inr k)) = inr (inr k)
    fault_there (Unary' p.Not q e here) span whole h (inl (inl k)) = inl (inl k)
    fault_there (Unary' p.Not q e here) span whole h (inl (inr k)) = absurd k
    fault_there (Unary' p.Not q e here) span whole h (inr k) = inr k
    fault_there (Unary' p.Complement q e here) span whole h (inl (inl k)) = inl (inl k)
    fault_there (Unary' p.Complement q e here) span whole h (inl (inr k)) = absurd k
    fault_there (Unary' p.Complement q e here) span whole h (inr k) = inr k
    fault_there (Unary' p.Negate q e here) span whole h (inl (inl k)) = inl (inl k)
    fault_there (Unary' p.Negate q e here) span whole h (inl (inr k)) = absurd k
    fault_there (Unary' p.Negate q e here) span whole h (inr k) = inr k
    fault_there (Binary' op q a here z b there) span whole h (inl k) = inl k
    fault_there (Binary' op q a here z b there) span whole h (inr (inl k)) = inr (inl k)
    fault_there (Binary' op q a here z b there) span whole h (inr (inr (inl k))) = inr (inr (inl k))
    fault_there (Binary' op q a here z b there) span whole h (inr (inr (inr (inl k)))) = absurd k
    fault_there (Binary' op q a here z b there) span whole h (inr (inr (inr (inr k)))) = inr (inr (inr (inr k)))
    fault_there (Conditional' q c here z a there w b beyond) span whole h (inl k) = inl k
    fault_there (Conditional' q c here z a there w b beyond) span whole h (inr (inl k)) = inr (inl k)
    fault_there (Conditional' q c here z a there w b beyond) span whole h (inr (inr (inl k))) = absurd k
    fault_there (Conditional' q c here z a there w b beyond) span whole h (inr (inr (inr k))) = inr (inr (inr k))
    fault_there _ span whole h k = absurd (cc h)
