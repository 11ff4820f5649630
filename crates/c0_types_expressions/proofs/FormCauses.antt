-- What is wrong with operands that have been typed, as the cause of a fault.
use Rattle.std.proofs.Common.{◌≡◌, refl, ap, ◌∙◌, true, false, Option, Some, None, inl, inr, Result, Ok, Err}
use Rattle.std.specs.Prelude.{◌≢◌, ◌⊎◌, IfErr}
use Rattle.c0_source.specs.declared.fault.Fault.{Fault}
use Rattle.c0_source.specs.declared.fault.FaultKind.TheVariants as k
use Rattle.c0_source.specs.declared.fault.Span.{Span}
use Rattle.c0_syntax.specs.declared.expression.ExpressionKind.{ExpressionKind}
use Rattle.c0_syntax.specs.declared.name.Name as n
use Rattle.c0_syntax.specs.declared.operator.PrefixOperator.{PrefixOperator}
use Rattle.c0_syntax.specs.declared.operator.PrefixOperator.TheVariants as p
use Rattle.c0_syntax.specs.Trees as s
use Rattle.c0_syntax.specs.Views.{expression_of_kind}
use Rattle.c0_rules.specs.Types.{Environment, ResolvedType, IntType, BoolType, and_so, cells_of}
use Rattle.c0_rules.specs.Expressions.{Typing, Place, Context, OperatorRule, OnNumbers, Compares, Conjunction, Disjunction, as_wanted, lengthed, operated, pointed, prefixed, typed_expression, typed_place}
use Rattle.c0_rules.specs.FaultExpressions.{AsValue, ArmsCause, ArrowCause, FieldCause, IndexCause, Mistyped, PointerCause, PrefixCause, Told, element_of, has_common, is_value}
use Rattle.c0_rules.specs.Answers.{Answers}
use Rattle.c0_types_expressions.specs.Forms.{BinaryCause, PrefixedCause}
use Rattle.c0_types_operators.specs.Operators.{takes_left}
use Rattle.c0_types_places.specs.Places.{PointedCause}
use Rattle.c0_types_terms.specs.Terms.{valued}
use Rattle.c0_types_operators.specs.Operators.{LeftCause, OperatedCause}
use Rattle.c0_types_places.specs.Places.{ArrayCause}
use Rattle.c0_types_expressions.proofs.Operands.{valued_is}

not_wanted : {A B : Type 0} (o : Option A) (go : A → B) → and_so o (λ a. Some (go a)) ≡ None → o ≡ None
not_wanted None go h = refl
not_wanted (Some a) go h = absurd (cc h)

-- an operator before its operand, but for `*`
pub prefixed_cause : (env : Environment) (f : Fault) (op : PrefixOperator) (x : Typing) (here span : Span) → op ≢ p.Dereference → prefixed env op x ≡ None → Told k.TypeMismatch here f → PrefixedCause env f op x here span
prefixed_cause env f p.Not x here span ne h told = (not_wanted (as_wanted env BoolType x) _ h, told)
prefixed_cause env f p.Complement x here span ne h told = (not_wanted (as_wanted env IntType x) _ h, told)
prefixed_cause env f p.Negate x here span ne h told = (not_wanted (as_wanted env IntType x) _ h, told)
prefixed_cause env f p.Dereference x here span ne h told = absurd (ne refl)

module _ (env : Environment) (at : Context) where
  -- this expression has this value
  abbrev pub IsValue : ExpressionKind → Typing → Type 0
  IsValue e x = valued (typed_expression env at (expression_of_kind e)) ≡ Some x

  is_typed : (e : ExpressionKind) (x : Typing) → IsValue e x → (typed_expression env at (expression_of_kind e) ≡ Some x) × (is_value x ≡ true)
  is_typed e x v = valued_is (typed_expression env at (expression_of_kind e)) x v

  module _ (f : Fault) where
    pub mistyped_at : (want : ResolvedType) (e : ExpressionKind) (span : Span) (x : Typing) → IsValue e x → as_wanted env want x ≡ None → Told k.TypeMismatch span f → Mistyped env at f want e span
    mistyped_at want e span x v none told = let q = is_typed e x v in (x, q.0, q.1, none, told)

    pub wanted_cause : {K : Type 0} (want : ResolvedType) (e : ExpressionKind) (span : Span) (x : Typing) → IsValue e x → K ⊎ (as_wanted env want x ≡ None) → K ⊎ Told k.TypeMismatch span f → K ⊎ Mistyped env at f want e span
    wanted_cause want e span x v (inl k) h = inl k
    wanted_cause want e span x v (inr none) (inl k) = inl k
    wanted_cause want e span x v (inr none) (inr told) = inr (mistyped_at want e span x v none told)

    pub pointer_cause : (e : ExpressionKind) (here sign : Span) (x : Typing) → IsValue e x → PointedCause env f x here sign → PointerCause env at f e here sign
    pointer_cause e here sign x v (inl h) = let q = is_typed e x v in (x, q.0, inl h)
    pointer_cause e here sign x v (inr h) = let q = is_typed e x v in (x, q.0, inr (h.0, q.1, h.1, h.2))

    pub binary_cause : (rule : OperatorRule) (a : ExpressionKind) (here : Span) (b : ExpressionKind) (there : Span) (x y : Typing) → IsValue a x → IsValue b y
        → takes_left rule x ≡ true → operated env rule x y ≡ None → OperatedCause env f rule x y here there → BinaryCause env at f rule a here b there
    binary_cause (OnNumbers o) a here b there x y v w fits none (inl h) = inl (mistyped_at IntType a here x v h.0 h.1)
    binary_cause (OnNumbers o) a here b there x y v w fits none (inr h) = inr (inl (mistyped_at IntType b there y w h.0 h.1))
    binary_cause (Compares r) a here b there x y v w fits none h = let q = is_typed a x v in let z = is_typed b y w in inr (inr (inr (x, y, q.0, z.0, q.1, z.1, fits, none, h)))
    binary_cause Conjunction a here b there x y v w fits none (inl h) = inl (mistyped_at BoolType a here x v h.0 h.1)
    binary_cause Conjunction a here b there x y v w fits none (inr h) = inr (inl (mistyped_at BoolType b there y w h.0 h.1))
    binary_cause Disjunction a here b there x y v w fits none (inl h) = inl (mistyped_at BoolType a here x v h.0 h.1)
    binary_cause Disjunction a here b there x y v w fits none (inr h) = inr (inl (mistyped_at BoolType b there y w h.0 h.1))

    pub left_told : (rule : OperatorRule) (a : ExpressionKind) (here : Span) (b : ExpressionKind) (there : Span) (x : Typing) → IsValue a x → LeftCause env f rule x here → BinaryCause env at f rule a here b there
    left_told (OnNumbers o) a here b there x v h = inl (mistyped_at IntType a here x v h.0 h.1)
    left_told (Compares r) a here b there x v h = let q = is_typed a x v in inr (inr (inl (x, q.0, q.1, h.0, h.1)))
    left_told Conjunction a here b there x v h = inl (mistyped_at BoolType a here x v h.0 h.1)
    left_told Disjunction a here b there x v h = inl (mistyped_at BoolType a here x v h.0 h.1)

    pub array_told : (a : ExpressionKind) (here : Span) (i : ExpressionKind) (there span : Span) (x : Typing) → IsValue a x → ArrayCause env f x here span → IndexCause env at f a here i there span
    array_told a here i there span x v (inl h) = let q = is_typed a x v in inl (x, q.0, q.1, h.0, h.1)
    array_told a here i there span x v (inr h) = inr (inr (x, h.0, (is_typed a x v).0, h.1, h.2, h.3))

    pub index_cause : (a : ExpressionKind) (here : Span) (i : ExpressionKind) (there span : Span) (x y : Typing) → IsValue a x → IsValue i y
        → ((element_of x ≡ None) × Told k.TypeMismatch here f) ⊎ ((as_wanted env IntType y ≡ None) × Told k.TypeMismatch there f) ⊎ ((r : ResolvedType) × (element_of x ≡ Some r) × (cells_of env.structs r ≡ None) × Told k.StructNotComplete span f)
        → IndexCause env at f a here i there span
    index_cause a here i there span x y v w (inl h) = let q = is_typed a x v in inl (x, q.0, q.1, h.0, h.1)
    index_cause a here i there span x y v w (inr (inl h)) = inr (inl (mistyped_at IntType i there y w h.0 h.1))
    index_cause a here i there span x y v w (inr (inr h)) = inr (inr (x, h.0, (is_typed a x v).0, h.1, h.2, h.3))

    pub arrow_cause : (e : ExpressionKind) (here : Span) (name : n.Name) (span : Span) (x : Typing) → IsValue e x
        → PointedCause env f x here here ⊎ ((q : Place) × (pointed env x ≡ Some q) × FieldCause env at f q.resolved here name span) → ArrowCause env at f e here name span
    arrow_cause e here name span x v (inl h) = inl (pointer_cause e here here x v h)
    arrow_cause e here name span x v (inr h) = inr (x, h.0, (is_typed e x v).0, h.1, h.2)

    pub arms_cause : (a b : ExpressionKind) (beyond : Span) (x y : Typing) → IsValue a x → IsValue b y → (has_common x y ≡ false) × Told k.TypeMismatch beyond f → ArmsCause env at f a b beyond
    arms_cause a b beyond x y v w h = let q = is_typed a x v in let z = is_typed b y w in (x, y, q.0, z.0, q.1, z.1, h.0, h.1)

    -- an operator before its operand, where a value is needed
    pub unary_cause : (op : PrefixOperator) (e : ExpressionKind) (here : Span) (whole : ExpressionKind) (span : Span) (x : Typing) → expression_of_kind whole ≡ s.Unary op (expression_of_kind e) → IsValue e x
        → PrefixedCause env f op x here span → PrefixCause env at f AsValue op e here whole span
    unary_cause p.Not e here whole span x is v h = inl (mistyped_at BoolType e here x v h.0 h.1)
    unary_cause p.Complement e here whole span x is v h = inl (mistyped_at IntType e here x v h.0 h.1)
    unary_cause p.Negate e here whole span x is v h = inl (mistyped_at IntType e here x v h.0 h.1)
    unary_cause p.Dereference e here whole span x is v (inl h) = inl (pointer_cause e here span x v h)
    unary_cause p.Dereference e here whole span x is v (inr h) =
        inr (h.0, ap (typed_place env at) is ∙ ap (λ o. and_so o (pointed env)) (is_typed e x v).0 ∙ h.1, h.2, h.3)

    pub length_cause : (e : ExpressionKind) (here : Span) (x : Typing) → IsValue e x → lengthed env x ≡ None → Told k.TypeMismatch here f
        → (x : Typing) × (typed_expression env at (expression_of_kind e) ≡ Some x) × (is_value x ≡ true) × (lengthed env x ≡ None) × Told k.TypeMismatch here f
    length_cause e here x v none told = let q = is_typed e x v in (x, q.0, q.1, none, told)

    pub array_cause : {H N : Type 0} (e : ExpressionKind) (here : Span) (x : Typing) → IsValue e x → (as_wanted env IntType x ≡ None) × Told k.TypeMismatch here f → H ⊎ Mistyped env at f IntType e here ⊎ N
    array_cause e here x v h = inr (inl (mistyped_at IntType e here x v h.0 h.1))
