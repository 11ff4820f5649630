-- The kind of a fault in a type or an expression, and its cause.
use Rattle.std.proofs.Common.{◌≡◌, ◌≢◌, ◌⊎◌, inl, inr, ℕ, suc, List, [], ◌∷◌, length, refl, sym, ap, subst, Bool, true, false, Option, Some, None}
use Rattle.std.specs.Prelude.{◌&&◌, not, nat_lt}
use Rattle.c0_source.specs.declared.fault.FaultKind.{FaultKind}
use Rattle.c0_source.specs.declared.fault.FaultKind.TheVariants as k
use Rattle.c0_source.specs.declared.fault.Span.{Span}
use Rattle.c0_syntax.specs.declared.operator.PrefixOperator.{PrefixOperator}
use Rattle.c0_syntax.specs.declared.operator.PrefixOperator.TheVariants as o
use Rattle.c0_syntax.specs.declared.name.Name as n
use Rattle.c0_syntax.specs.declared.value_type.ValueType as u
use Rattle.c0_syntax.specs.declared.value_type.TypeKind.{TypeKind, Basic, Struct, Named, Pointer', Array'}
use Rattle.c0_syntax.specs.declared.expression.ExpressionKind.{ExpressionKind, Row_of-Expression, end_of-Expression, more_of-Expression, Number, Character, Truth, Null, Text, Variable, Parenthesized', Call', Alloc, AllocArray', Result, Length', Index', Field', PointerField', Unary', Binary', Conditional'}
use Rattle.c0_syntax.specs.Trees as s
use Rattle.c0_syntax.specs.Views.{name_of, type_of, type_of_kind, expression_of_kind, row_of}
use Rattle.c0_typed.specs.Trees.{Relation}
use Rattle.c0_rules.specs.Types.{and_so, provided, Name, Table, ResolvedType, VoidType, IntType, BoolType, base_type, resolved_type, result_type, is_small, Environment, StructEntry, cells_of}
use Rattle.c0_rules.specs.Expressions.{OperatorRule, OnNumbers, Compares, Conjunction, Disjunction, operator_rule, Typing, Place, Context, local_of, Callee, takes, gives, as_wanted, compared, pointed, lengthed, callee, typed_expression, typed_place}
use Rattle.c0_rules.specs.FaultExpressions.{Position, AsValue, AsPlace, TypeCause, SmallTypeCause, ResultTypeCause, HeldTypeCause, is_value, is_null, is_comparable, has_common, element_of, struct_name, argument_count, Mistyped, MistypedArgument, CallCause, VoidCall, ComparedCause, OperandCause, ArmsCause, PointerCause, IndexCause, FieldCause, DotCause, ArrowCause, StructValue, NoPlace, PrefixCause, InExpression, InArguments}
use Rattle.c0_rules_faults.proofs.Find.{At, here, when, or_else, either, when_is, with_some, where_so, both, not_is, is_none, none_is, differ, differ_is}

-- ---- types

abbrev pub type_fault : Table ResolvedType → s.ValueType → Option FaultKind
type_fault typedefs (s.Basic base) = when (is_none (base_type base)) k.VoidUse
type_fault typedefs (s.StructType x) = None
type_fault typedefs (s.NamedType x) = when (is_none (typedefs x)) k.Syntax
type_fault typedefs (s.Pointer a) = type_fault typedefs a
type_fault typedefs (s.Array a) = type_fault typedefs a

pub type_found : (typedefs : Table ResolvedType) (ty : TypeKind) (span : Span) (kind : FaultKind) → type_fault typedefs (type_of_kind ty) ≡ Some kind → At kind (λ f. TypeCause typedefs f ty span)
type_found typedefs (Basic base) span kind h = let w = when_is (is_none (base_type base)) k.VoidUse kind h in (span, (none_is (base_type base) w.0, here k.VoidUse kind span w.1))
type_found typedefs (Struct x) span kind h = absurd (cc h)
type_found typedefs (Named x) span kind h = let w = when_is (is_none (typedefs (name_of x))) k.Syntax kind h in (x.span, (none_is (typedefs (name_of x)) w.0, here k.Syntax kind x.span w.1))
type_found typedefs (Pointer' p ty at) span kind h = type_found typedefs ty at kind h
type_found typedefs (Array' p ty at) span kind h = type_found typedefs ty at kind h

abbrev pub not_small : ResolvedType → Option FaultKind
not_small r = when (not (is_small r)) k.NotSmall

abbrev pub small_type_fault : Table ResolvedType → s.ValueType → Option FaultKind
small_type_fault typedefs a = or_else (type_fault typedefs a) (and_so (resolved_type typedefs a) not_small)

pub small_type_found : (typedefs : Table ResolvedType) (ty : u.ValueType) (kind : FaultKind) → small_type_fault typedefs (type_of ty) ≡ Some kind → At kind (λ f. SmallTypeCause typedefs f ty)
small_type_found typedefs ty kind h = elim (either (type_fault typedefs (type_of ty)) (and_so (resolved_type typedefs (type_of ty)) not_small) kind h) [
  | inl q ↦ (let w = type_found typedefs ty.kind ty.span kind q in (w.0, inl w.1))
  | inr q ↦
      (let w = with_some (resolved_type typedefs (type_of ty)) not_small kind q in
      let v = when_is (not (is_small w.0)) k.NotSmall kind w.2 in
      (ty.span, inr (w.0, w.1, not_is (is_small w.0) v.0, here k.NotSmall kind ty.span v.1)))
]

abbrev pub result_fault : Table ResolvedType → s.ValueType → Option FaultKind
result_fault typedefs a = provided (is_none (result_type typedefs a)) (small_type_fault typedefs a)

pub result_found : (typedefs : Table ResolvedType) (ty : u.ValueType) (kind : FaultKind) → result_fault typedefs (type_of ty) ≡ Some kind → At kind (λ f. ResultTypeCause typedefs f ty)
result_found typedefs ty kind h =
    let w = where_so (is_none (result_type typedefs (type_of ty))) (small_type_fault typedefs (type_of ty)) kind h in
    let v = small_type_found typedefs ty kind w.1 in
    (v.0, (none_is (result_type typedefs (type_of ty)) w.0, v.1))

abbrev not_complete : Environment → ResolvedType → Option FaultKind
not_complete env r = when (is_none (cells_of env.structs r)) k.StructNotComplete

abbrev pub held_fault : Environment → s.ValueType → Option FaultKind
held_fault env a = or_else (type_fault env.typedefs a) (and_so (resolved_type env.typedefs a) (not_complete env))

pub held_found : (env : Environment) (ty : u.ValueType) (kind : FaultKind) → held_fault env (type_of ty) ≡ Some kind → At kind (λ f. HeldTypeCause env f ty)
held_found env ty kind h = elim (either (type_fault env.typedefs (type_of ty)) (and_so (resolved_type env.typedefs (type_of ty)) (not_complete env)) kind h) [
  | inl q ↦ (let w = type_found env.typedefs ty.kind ty.span kind q in (w.0, inl w.1))
  | inr q ↦
      (let w = with_some (resolved_type env.typedefs (type_of ty)) (not_complete env) kind q in
      let v = when_is (is_none (cells_of env.structs w.0)) k.StructNotComplete kind w.2 in
      (ty.span, inr (w.0, w.1, none_is (cells_of env.structs w.0) v.0, here k.StructNotComplete kind ty.span v.1)))
]

abbrev pub typedef_fault : Table ResolvedType → s.ValueType → Option FaultKind
typedef_fault typedefs a = type_fault typedefs a

-- ---- expressions

abbrev is_void : ResolvedType → Bool
is_void VoidType = true
is_void _ = false

void_is : (r : ResolvedType) → is_void r ≡ true → r ≡ VoidType
void_is VoidType e = refl
void_is _ e = absurd (cc e)

abbrev count : s.Expressions → ℕ
count s.none = 0
count (s.more e rest) = suc (count rest)

count_is : {m : _} (es : Row_of-Expression m) → argument_count es ≡ count (row_of es)
count_is end_of-Expression = refl
count_is (more_of-Expression e at rest) = ap suc (count_is rest)

module _ (env : Environment) (at : Context) where
  abbrev value : s.Expression → Option Typing
  value e = typed_expression env at e

  abbrev place : s.Expression → Option Place
  place e = typed_place env at e

  abbrev not_wanted : ResolvedType → Typing → Option FaultKind
  not_wanted want x = when (is_value x && is_none (as_wanted env want x)) k.TypeMismatch

  abbrev pub mistyped : ResolvedType → s.Expression → Option FaultKind
  mistyped want e = and_so (value e) (not_wanted want)

  abbrev mistyped_arguments : s.Expressions → List ResolvedType → Option FaultKind
  mistyped_arguments s.none us = None
  mistyped_arguments (s.more e rest) [] = None
  mistyped_arguments (s.more e rest) (u ∷ us) = or_else (mistyped u e) (mistyped_arguments rest us)

  abbrev called_fault : s.Expressions → Callee → Option FaultKind
  called_fault es c = or_else (when (differ (count es) (length (takes c))) k.ArgumentCount) (mistyped_arguments es (takes c))

  abbrev pub call_fault : Name → s.Expressions → Option FaultKind
  call_fault x es = or_else (when (is_none (callee env x)) k.UnknownName) (and_so (callee env x) (called_fault es))

  abbrev void_fault : Callee → Option FaultKind
  void_fault c = when (is_void (gives c)) k.VoidUse

  abbrev void_call : Name → Option FaultKind
  void_call x = and_so (callee env x) void_fault

  abbrev left_fault : Relation → Typing → Option FaultKind
  left_fault r x = when (is_value x && not (is_comparable r x)) k.TypeMismatch

  abbrev right_fault : Relation → Typing → Typing → Option FaultKind
  right_fault r x y = when (is_value x && (is_value y && (is_comparable r x && is_none (compared env r x y)))) k.TypeMismatch

  abbrev compared_fault : OperatorRule → s.Expression → s.Expression → Option FaultKind
  compared_fault (Compares r) a b = or_else (and_so (value a) (left_fault r)) (and_so (value a) (λ x. and_so (value b) (right_fault r x)))
  compared_fault _ a b = None

  abbrev operand_fault : OperatorRule → s.Expression → Option FaultKind
  operand_fault (OnNumbers i) e = mistyped IntType e
  operand_fault (Compares r) e = None
  operand_fault Conjunction e = mistyped BoolType e
  operand_fault Disjunction e = mistyped BoolType e

  abbrev uncommon : Typing → Typing → Option FaultKind
  uncommon x y = when (is_value x && (is_value y && not (has_common x y))) k.TypeMismatch

  abbrev arms_fault : s.Expression → s.Expression → Option FaultKind
  arms_fault a b = and_so (value a) (λ x. and_so (value b) (uncommon x))

  abbrev unpointed : Typing → Option FaultKind
  unpointed x = or_else (when (is_null x) k.NullDereference) (when (not (is_null x) && (is_value x && is_none (pointed env x))) k.TypeMismatch)

  abbrev pointer_fault : s.Expression → Option FaultKind
  pointer_fault e = and_so (value e) unpointed

  abbrev no_array : Typing → Option FaultKind
  no_array x = when (is_value x && is_none (element_of x)) k.TypeMismatch

  abbrev element_fault : Typing → Option FaultKind
  element_fault x = and_so (element_of x) (not_complete env)

  abbrev index_fault : s.Expression → s.Expression → Option FaultKind
  index_fault a i = or_else (and_so (value a) no_array) (or_else (mistyped IntType i) (and_so (value a) element_fault))

  abbrev incomplete : Name → Option FaultKind
  incomplete m = when (is_none (env.structs m)) k.StructNotComplete

  abbrev unknown : Name → StructEntry → Option FaultKind
  unknown x d = when (is_none (d.fields x)) k.UnknownField

  abbrev field_fault : Name → ResolvedType → Option FaultKind
  field_fault x r = or_else (when (is_none (struct_name r)) k.TypeMismatch) (or_else (and_so (struct_name r) incomplete) (and_so (struct_name r) (λ m. and_so (env.structs m) (unknown x))))

  abbrev place_field : Name → Place → Option FaultKind
  place_field x q = field_fault x q.resolved

  abbrev dot_fault : s.Expression → Name → Option FaultKind
  dot_fault e x = and_so (place e) (place_field x)

  abbrev arrow_fault : s.Expression → Name → Option FaultKind
  arrow_fault e x = or_else (pointer_fault e) (and_so (value e) (λ y. and_so (pointed env y) (place_field x)))

  abbrev large_place : Place → Option FaultKind
  large_place q = not_small q.resolved

  -- whether a place is needed where an expression stands
  abbrev pub is_for_place : Position → Bool
  is_for_place AsValue = false
  is_for_place (AsPlace whole) = true

  abbrev struct_fault : Bool → s.Expression → Option FaultKind
  struct_fault false e = and_so (place e) large_place
  struct_fault true e = None

  abbrev has_value : Typing → Option FaultKind
  has_value x = when (is_value x) k.TypeMismatch

  abbrev place_fault : Bool → s.Expression → Option FaultKind
  place_fault false e = None
  place_fault true e = and_so (value e) has_value

  abbrev prefix_fault : Bool → PrefixOperator → s.Expression → s.Expression → Option FaultKind
  prefix_fault needs_place o.Not e whole = or_else (mistyped BoolType e) (place_fault needs_place whole)
  prefix_fault needs_place o.Complement e whole = or_else (mistyped IntType e) (place_fault needs_place whole)
  prefix_fault needs_place o.Negate e whole = or_else (mistyped IntType e) (place_fault needs_place whole)
  prefix_fault needs_place o.Dereference e whole = or_else (pointer_fault e) (struct_fault needs_place whole)

  abbrev no_length : Typing → Option FaultKind
  no_length x = when (is_value x && is_none (lengthed env x)) k.TypeMismatch

  abbrev mutual
    pub expression_fault : Bool → s.Expression → Option FaultKind
    expression_fault needs_place (s.Character c) = or_else (when (not (nat_lt c 128)) k.BadToken) (place_fault needs_place (s.Character c))
    expression_fault needs_place (s.Variable x) = or_else (when (is_none (local_of at.locals x)) k.UnknownName) (place_fault needs_place (s.Variable x))
    expression_fault needs_place (s.Parenthesized e) = expression_fault needs_place e
    expression_fault needs_place (s.Call x es) = or_else (call_fault x es) (or_else (void_call x) (or_else (place_fault needs_place (s.Call x es)) (arguments_fault es)))
    expression_fault needs_place (s.Alloc a) = or_else (held_fault env a) (place_fault needs_place (s.Alloc a))
    expression_fault needs_place (s.AllocArray a e) = or_else (held_fault env a) (or_else (mistyped IntType e) (or_else (place_fault needs_place (s.AllocArray a e)) (expression_fault false e)))
    expression_fault needs_place s.Result = or_else (when (is_none at.result) k.BadContract) (place_fault needs_place s.Result)
    expression_fault needs_place (s.Length e) = or_else (and_so (value e) no_length) (or_else (place_fault needs_place (s.Length e)) (expression_fault false e))
    expression_fault needs_place (s.Index a i) = or_else (index_fault a i) (or_else (struct_fault needs_place (s.Index a i)) (or_else (expression_fault false a) (expression_fault false i)))
    expression_fault needs_place (s.Field e x) = or_else (dot_fault e x) (or_else (struct_fault needs_place (s.Field e x)) (expression_fault true e))
    expression_fault needs_place (s.PointerField e x) = or_else (arrow_fault e x) (or_else (struct_fault needs_place (s.PointerField e x)) (expression_fault false e))
    expression_fault needs_place (s.Unary op e) = or_else (prefix_fault needs_place op e (s.Unary op e)) (expression_fault false e)
    expression_fault needs_place (s.Binary op a b) =
        or_else (operand_fault (operator_rule op) a) (or_else (operand_fault (operator_rule op) b) (or_else (compared_fault (operator_rule op) a b)
        (or_else (place_fault needs_place (s.Binary op a b)) (or_else (expression_fault false a) (expression_fault false b)))))
    expression_fault needs_place (s.Conditional c a b) =
        or_else (mistyped BoolType c) (or_else (arms_fault a b) (or_else (place_fault needs_place (s.Conditional c a b))
        (or_else (expression_fault false c) (or_else (expression_fault false a) (expression_fault false b)))))
    expression_fault needs_place e = place_fault needs_place e

    pub arguments_fault : s.Expressions → Option FaultKind
    arguments_fault s.none = None
    arguments_fault (s.more e rest) = or_else (expression_fault false e) (arguments_fault rest)

  -- ---- the causes

  abbrev tree : ExpressionKind → s.Expression
  tree e = expression_of_kind e

  pub mistyped_found : (want : ResolvedType) (e : ExpressionKind) (span : Span) (kind : FaultKind) → mistyped want (tree e) ≡ Some kind → At kind (λ f. Mistyped env at f want e span)
  mistyped_found want e span kind h =
      let w = with_some (value (tree e)) (not_wanted want) kind h in
      let v = when_is (is_value w.0 && is_none (as_wanted env want w.0)) k.TypeMismatch kind w.2 in
      let b = both (is_value w.0) (is_none (as_wanted env want w.0)) v.0 in
      (span, (w.0, w.1, b.0, none_is (as_wanted env want w.0) b.1, here k.TypeMismatch kind span v.1))

  mistyped_arguments_found : {m : _} (es : Row_of-Expression m) (us : List ResolvedType) (kind : FaultKind) → mistyped_arguments (row_of es) us ≡ Some kind → At kind (λ f. MistypedArgument env at f es us)
  mistyped_arguments_found end_of-Expression us kind h = absurd (cc h)
  mistyped_arguments_found (more_of-Expression e span rest) [] kind h = absurd (cc h)
  mistyped_arguments_found (more_of-Expression e span rest) (u ∷ us) kind h = elim (either (mistyped u (tree e)) (mistyped_arguments (row_of rest) us) kind h) [
    | inl q ↦ (let w = mistyped_found u e span kind q in (w.0, inl w.1))
    | inr q ↦ (let w = mistyped_arguments_found rest us kind q in (w.0, inr w.1))
  ]

  pub call_found : {m : _} (x : n.Name) (es : Row_of-Expression m) (span : Span) (kind : FaultKind) → call_fault (name_of x) (row_of es) ≡ Some kind → At kind (λ f. CallCause env at f x es span)
  call_found x es span kind h = elim (either (when (is_none (callee env (name_of x))) k.UnknownName) (and_so (callee env (name_of x)) (called_fault (row_of es))) kind h) [
    | inl q ↦ (let w = when_is (is_none (callee env (name_of x))) k.UnknownName kind q in (x.span, inl (none_is (callee env (name_of x)) w.0, here k.UnknownName kind x.span w.1)))
    | inr q ↦
        (let w = with_some (callee env (name_of x)) (called_fault (row_of es)) kind q in
        elim (either (when (differ (count (row_of es)) (length (takes w.0))) k.ArgumentCount) (mistyped_arguments (row_of es) (takes w.0)) kind w.2) [
          | inl v ↦
              (let y = when_is (differ (count (row_of es)) (length (takes w.0))) k.ArgumentCount kind v in
              (span, inr (w.0, w.1, inl (subst (λ (z : ℕ). z ≢ length (takes w.0)) (sym (count_is es)) (differ_is (count (row_of es)) (length (takes w.0)) y.0), here k.ArgumentCount kind span y.1))))
          | inr v ↦ (let y = mistyped_arguments_found es (takes w.0) kind v in (y.0, inr (w.0, w.1, inr y.1)))
        ])
  ]

  void_found : (x : n.Name) (span : Span) (kind : FaultKind) → void_call (name_of x) ≡ Some kind → At kind (λ f. VoidCall env at f x span)
  void_found x span kind h =
      let w = with_some (callee env (name_of x)) void_fault kind h in
      let v = when_is (is_void (gives w.0)) k.VoidUse kind w.2 in
      (span, (w.0, w.1, void_is (gives w.0) v.0, here k.VoidUse kind span v.1))

  compared_found : (rule : OperatorRule) (a : ExpressionKind) (this : Span) (b : ExpressionKind) (there : Span) (kind : FaultKind) → compared_fault rule (tree a) (tree b) ≡ Some kind → At kind (λ f. ComparedCause env at f rule a this b there)
  compared_found (Compares r) a this b there kind h = elim (either (and_so (value (tree a)) (left_fault r)) (and_so (value (tree a)) (λ x. and_so (value (tree b)) (right_fault r x))) kind h) [
    | inl q ↦
        (let w = with_some (value (tree a)) (left_fault r) kind q in
        let v = when_is (is_value w.0 && not (is_comparable r w.0)) k.TypeMismatch kind w.2 in
        let c = both (is_value w.0) (not (is_comparable r w.0)) v.0 in
        (this, inl (w.0, w.1, c.0, not_is (is_comparable r w.0) c.1, here k.TypeMismatch kind this v.1)))
    | inr q ↦
        (let w = with_some (value (tree a)) (λ x. and_so (value (tree b)) (right_fault r x)) kind q in
        let y = with_some (value (tree b)) (right_fault r w.0) kind w.2 in
        let v = when_is (is_value w.0 && (is_value y.0 && (is_comparable r w.0 && is_none (compared env r w.0 y.0)))) k.TypeMismatch kind y.2 in
        let c = both (is_value w.0) (is_value y.0 && (is_comparable r w.0 && is_none (compared env r w.0 y.0))) v.0 in
        let d = both (is_value y.0) (is_comparable r w.0 && is_none (compared env r w.0 y.0)) c.1 in
        let g = both (is_comparable r w.0) (is_none (compared env r w.0 y.0)) d.1 in
        (there, inr (w.0, y.0, w.1, y.1, c.0, d.0, g.0, none_is (compared env r w.0 y.0) g.1, here k.TypeMismatch kind there v.1)))
  ]
  compared_found (OnNumbers i) a this b there kind h = absurd (cc h)
  compared_found Conjunction a this b there kind h = absurd (cc h)
  compared_found Disjunction a this b there kind h = absurd (cc h)

  operand_found : (rule : OperatorRule) (e : ExpressionKind) (span : Span) (kind : FaultKind) → operand_fault rule (tree e) ≡ Some kind → At kind (λ f. OperandCause env at f rule e span)
  operand_found (OnNumbers i) e span kind h = mistyped_found IntType e span kind h
  operand_found (Compares r) e span kind h = absurd (cc h)
  operand_found Conjunction e span kind h = mistyped_found BoolType e span kind h
  operand_found Disjunction e span kind h = mistyped_found BoolType e span kind h

  arms_found : (a b : ExpressionKind) (span : Span) (kind : FaultKind) → arms_fault (tree a) (tree b) ≡ Some kind → At kind (λ f. ArmsCause env at f a b span)
  arms_found a b span kind h =
      let w = with_some (value (tree a)) (λ x. and_so (value (tree b)) (uncommon x)) kind h in
      let y = with_some (value (tree b)) (uncommon w.0) kind w.2 in
      let v = when_is (is_value w.0 && (is_value y.0 && not (has_common w.0 y.0))) k.TypeMismatch kind y.2 in
      let c = both (is_value w.0) (is_value y.0 && not (has_common w.0 y.0)) v.0 in
      let d = both (is_value y.0) (not (has_common w.0 y.0)) c.1 in
      (span, (w.0, y.0, w.1, y.1, c.0, d.0, not_is (has_common w.0 y.0) d.1, here k.TypeMismatch kind span v.1))

  pointer_found : (e : ExpressionKind) (span sign : Span) (kind : FaultKind) → pointer_fault (tree e) ≡ Some kind → At kind (λ f. PointerCause env at f e span sign)
  pointer_found e span sign kind h =
      let w = with_some (value (tree e)) unpointed kind h in
      elim (either (when (is_null w.0) k.NullDereference) (when (not (is_null w.0) && (is_value w.0 && is_none (pointed env w.0))) k.TypeMismatch) kind w.2) [
        | inl q ↦ (let v = when_is (is_null w.0) k.NullDereference kind q in (sign, (w.0, w.1, inl (v.0, here k.NullDereference kind sign v.1))))
        | inr q ↦
            (let v = when_is (not (is_null w.0) && (is_value w.0 && is_none (pointed env w.0))) k.TypeMismatch kind q in
            let c = both (not (is_null w.0)) (is_value w.0 && is_none (pointed env w.0)) v.0 in
            let d = both (is_value w.0) (is_none (pointed env w.0)) c.1 in
            (span, (w.0, w.1, inr (not_is (is_null w.0) c.0, d.0, none_is (pointed env w.0) d.1, here k.TypeMismatch kind span v.1))))
      ]

  index_found : (a : ExpressionKind) (this : Span) (i : ExpressionKind) (there span : Span) (kind : FaultKind) → index_fault (tree a) (tree i) ≡ Some kind → At kind (λ f. IndexCause env at f a this i there span)
  index_found a this i there span kind h = elim (either (and_so (value (tree a)) no_array) (or_else (mistyped IntType (tree i)) (and_so (value (tree a)) element_fault)) kind h) [
    | inl q ↦
        (let w = with_some (value (tree a)) no_array kind q in
        let v = when_is (is_value w.0 && is_none (element_of w.0)) k.TypeMismatch kind w.2 in
        let c = both (is_value w.0) (is_none (element_of w.0)) v.0 in
        (this, inl (w.0, w.1, c.0, none_is (element_of w.0) c.1, here k.TypeMismatch kind this v.1)))
    | inr q ↦ elim (either (mistyped IntType (tree i)) (and_so (value (tree a)) element_fault) kind q) [
      | inl p ↦ (let w = mistyped_found IntType i there kind p in (w.0, inr (inl w.1)))
      | inr p ↦
          (let w = with_some (value (tree a)) element_fault kind p in
          let y = with_some (element_of w.0) (not_complete env) kind w.2 in
          let v = when_is (is_none (cells_of env.structs y.0)) k.StructNotComplete kind y.2 in
          (span, inr (inr (w.0, y.0, w.1, y.1, none_is (cells_of env.structs y.0) v.0, here k.StructNotComplete kind span v.1))))
    ]
  ]

  field_found : (r : ResolvedType) (this : Span) (x : n.Name) (span : Span) (kind : FaultKind) → field_fault (name_of x) r ≡ Some kind → At kind (λ f. FieldCause env at f r this x span)
  field_found r this x span kind h =
      elim (either (when (is_none (struct_name r)) k.TypeMismatch) (or_else (and_so (struct_name r) incomplete) (and_so (struct_name r) (λ m. and_so (env.structs m) (unknown (name_of x))))) kind h) [
        | inl q ↦ (let v = when_is (is_none (struct_name r)) k.TypeMismatch kind q in (this, inl (none_is (struct_name r) v.0, here k.TypeMismatch kind this v.1)))
        | inr q ↦ elim (either (and_so (struct_name r) incomplete) (and_so (struct_name r) (λ m. and_so (env.structs m) (unknown (name_of x)))) kind q) [
          | inl p ↦
              (let w = with_some (struct_name r) incomplete kind p in
              let v = when_is (is_none (env.structs w.0)) k.StructNotComplete kind w.2 in
              (span, inr (inl (w.0, w.1, none_is (env.structs w.0) v.0, here k.StructNotComplete kind span v.1))))
          | inr p ↦
              (let w = with_some (struct_name r) (λ m. and_so (env.structs m) (unknown (name_of x))) kind p in
              let d = with_some (env.structs w.0) (unknown (name_of x)) kind w.2 in
              let v = when_is (is_none (d.0.fields (name_of x))) k.UnknownField kind d.2 in
              (x.span, inr (inr (w.0, d.0, w.1, d.1, none_is (d.0.fields (name_of x)) v.0, here k.UnknownField kind x.span v.1))))
        ]
      ]

  dot_found : (e : ExpressionKind) (this : Span) (x : n.Name) (span : Span) (kind : FaultKind) → dot_fault (tree e) (name_of x) ≡ Some kind → At kind (λ f. DotCause env at f e this x span)
  dot_found e this x span kind h =
      let w = with_some (place (tree e)) (place_field (name_of x)) kind h in
      let v = field_found w.0.resolved this x span kind w.2 in
      (v.0, (w.0, w.1, v.1))

  arrow_found : (e : ExpressionKind) (this : Span) (x : n.Name) (span : Span) (kind : FaultKind) → arrow_fault (tree e) (name_of x) ≡ Some kind → At kind (λ f. ArrowCause env at f e this x span)
  arrow_found e this x span kind h = elim (either (pointer_fault (tree e)) (and_so (value (tree e)) (λ y. and_so (pointed env y) (place_field (name_of x)))) kind h) [
    | inl q ↦ (let w = pointer_found e this this kind q in (w.0, inl w.1))
    | inr q ↦
        (let w = with_some (value (tree e)) (λ y. and_so (pointed env y) (place_field (name_of x))) kind q in
        let y = with_some (pointed env w.0) (place_field (name_of x)) kind w.2 in
        let v = field_found y.0.resolved this x span kind y.2 in
        (v.0, inr (w.0, y.0, w.1, y.1, v.1)))
  ]

  struct_found : (position : Position) (e : ExpressionKind) (span : Span) (kind : FaultKind) → struct_fault (is_for_place position) (tree e) ≡ Some kind → At kind (λ f. StructValue env at f position e span)
  struct_found AsValue e span kind h =
      let w = with_some (place (tree e)) large_place kind h in
      let v = when_is (not (is_small w.0.resolved)) k.NotSmall kind w.2 in
      (span, (w.0, w.1, not_is (is_small w.0.resolved) v.0, here k.NotSmall kind span v.1))
  struct_found (AsPlace whole) e span kind h = absurd (cc h)

  place_found : (position : Position) (e : ExpressionKind) (span : Span) (kind : FaultKind) → place_fault (is_for_place position) (tree e) ≡ Some kind → At kind (λ f. NoPlace env at f position e span)
  place_found AsValue e span kind h = absurd (cc h)
  place_found (AsPlace whole) e span kind h =
      let w = with_some (value (tree e)) has_value kind h in
      let v = when_is (is_value w.0) k.TypeMismatch kind w.2 in
      (whole, (w.0, w.1, v.0, here k.TypeMismatch kind whole v.1))

  plain_prefix : (position : Position) (want : ResolvedType) (e : ExpressionKind) (this : Span) (whole : ExpressionKind) (span : Span) (kind : FaultKind) → or_else (mistyped want (tree e)) (place_fault (is_for_place position) (tree whole)) ≡ Some kind
      → At kind (λ f. Mistyped env at f want e this ⊎ NoPlace env at f position whole span)
  plain_prefix position want e this whole span kind h = elim (either (mistyped want (tree e)) (place_fault (is_for_place position) (tree whole)) kind h) [
    | inl q ↦ (let w = mistyped_found want e this kind q in (w.0, inl w.1))
    | inr q ↦ (let w = place_found position whole span kind q in (w.0, inr w.1))
  ]

  prefix_found : (position : Position) (op : PrefixOperator) (e : ExpressionKind) (this : Span) (whole : ExpressionKind) (span : Span) (kind : FaultKind) → prefix_fault (is_for_place position) op (tree e) (tree whole) ≡ Some kind → At kind (λ f. PrefixCause env at f position op e this whole span)
  prefix_found position o.Not e this whole span kind h = plain_prefix position BoolType e this whole span kind h
  prefix_found position o.Complement e this whole span kind h = plain_prefix position IntType e this whole span kind h
  prefix_found position o.Negate e this whole span kind h = plain_prefix position IntType e this whole span kind h
  prefix_found position o.Dereference e this whole span kind h = elim (either (pointer_fault (tree e)) (struct_fault (is_for_place position) (tree whole)) kind h) [
    | inl q ↦ (let w = pointer_found e this span kind q in (w.0, inl w.1))
    | inr q ↦ (let w = struct_found position whole span kind q in (w.0, inr w.1))
  ]

  mutual
    pub expression_found : (position : Position) (e : ExpressionKind) (span : Span) (kind : FaultKind) → expression_fault (is_for_place position) (tree e) ≡ Some kind → At kind (λ f. InExpression env at f position e span)
    expression_found position (Number m) span kind h = place_found position (Number m) span kind h
    expression_found position (Character c) span kind h = elim (either (when (not (nat_lt c 128)) k.BadToken) (place_fault (is_for_place position) (s.Character c)) kind h) [
      | inl q ↦ (let v = when_is (not (nat_lt c 128)) k.BadToken kind q in (span, inl (not_is (nat_lt c 128) v.0, here k.BadToken kind span v.1)))
      | inr q ↦ (let w = place_found position (Character c) span kind q in (w.0, inr w.1))
    ]
    expression_found position (Truth b) span kind h = place_found position (Truth b) span kind h
    expression_found position Null span kind h = place_found position Null span kind h
    expression_found position (Text text) span kind h = place_found position (Text text) span kind h
    expression_found position (Variable x) span kind h = elim (either (when (is_none (local_of at.locals (name_of x))) k.UnknownName) (place_fault (is_for_place position) (s.Variable (name_of x))) kind h) [
      | inl q ↦ (let v = when_is (is_none (local_of at.locals (name_of x))) k.UnknownName kind q in (x.span, inl (none_is (local_of at.locals (name_of x)) v.0, here k.UnknownName kind x.span v.1)))
      | inr q ↦ (let w = place_found position (Variable x) span kind q in (w.0, inr w.1))
    ]
    expression_found position (Parenthesized' p e this) span kind h = expression_found position e this kind h
    expression_found position (Call' x shape es) span kind h = elim (either (call_fault (name_of x) (row_of es)) _ kind h) [
      | inl q ↦ (let w = call_found x es span kind q in (w.0, inl w.1))
      | inr q ↦ elim (either (void_call (name_of x)) _ kind q) [
        | inl p ↦ (let w = void_found x span kind p in (w.0, inr (inl w.1)))
        | inr p ↦ elim (either (place_fault (is_for_place position) (tree (Call' x shape es))) (arguments_fault (row_of es)) kind p) [
          | inl y ↦ (let w = place_found position (Call' x shape es) span kind y in (w.0, inr (inr (inl w.1))))
          | inr y ↦ (let w = arguments_found es kind y in (w.0, inr (inr (inr w.1))))
        ]
      ]
    ]
    expression_found position (Alloc ty) span kind h = elim (either (held_fault env (type_of ty)) (place_fault (is_for_place position) (tree (Alloc ty))) kind h) [
      | inl q ↦ (let w = held_found env ty kind q in (w.0, inl w.1))
      | inr q ↦ (let w = place_found position (Alloc ty) span kind q in (w.0, inr w.1))
    ]
    expression_found position (AllocArray' ty p e this) span kind h = elim (either (held_fault env (type_of ty)) _ kind h) [
      | inl q ↦ (let w = held_found env ty kind q in (w.0, inl w.1))
      | inr q ↦ elim (either (mistyped IntType (tree e)) _ kind q) [
        | inl y ↦ (let w = mistyped_found IntType e this kind y in (w.0, inr (inl w.1)))
        | inr y ↦ elim (either (place_fault (is_for_place position) (tree (AllocArray' ty p e this))) (expression_fault false (tree e)) kind y) [
          | inl z ↦ (let w = place_found position (AllocArray' ty p e this) span kind z in (w.0, inr (inr (inl w.1))))
          | inr z ↦ (let w = expression_found AsValue e this kind z in (w.0, inr (inr (inr w.1))))
        ]
      ]
    ]
    expression_found position Result span kind h = elim (either (when (is_none at.result) k.BadContract) (place_fault (is_for_place position) s.Result) kind h) [
      | inl q ↦ (let v = when_is (is_none at.result) k.BadContract kind q in (span, inl (none_is at.result v.0, here k.BadContract kind span v.1)))
      | inr q ↦ (let w = place_found position Result span kind q in (w.0, inr w.1))
    ]
    expression_found position (Length' p e this) span kind h = elim (either (and_so (value (tree e)) no_length) _ kind h) [
      | inl q ↦
          (let w = with_some (value (tree e)) no_length kind q in
          let v = when_is (is_value w.0 && is_none (lengthed env w.0)) k.TypeMismatch kind w.2 in
          let c = both (is_value w.0) (is_none (lengthed env w.0)) v.0 in
          (this, inl (w.0, w.1, c.0, none_is (lengthed env w.0) c.1, here k.TypeMismatch kind this v.1)))
      | inr q ↦ elim (either (place_fault (is_for_place position) (tree (Length' p e this))) (expression_fault false (tree e)) kind q) [
        | inl y ↦ (let w = place_found position (Length' p e this) span kind y in (w.0, inr (inl w.1)))
        | inr y ↦ (let w = expression_found AsValue e this kind y in (w.0, inr (inr w.1)))
      ]
    ]
    expression_found position (Index' p a this q i there) span kind h = elim (either (index_fault (tree a) (tree i)) _ kind h) [
      | inl y ↦ (let w = index_found a this i there span kind y in (w.0, inl w.1))
      | inr y ↦ elim (either (struct_fault (is_for_place position) (tree (Index' p a this q i there))) _ kind y) [
        | inl z ↦ (let w = struct_found position (Index' p a this q i there) span kind z in (w.0, inr (inl w.1)))
        | inr z ↦ elim (either (expression_fault false (tree a)) (expression_fault false (tree i)) kind z) [
          | inl x ↦ (let w = expression_found AsValue a this kind x in (w.0, inr (inr (inl w.1))))
          | inr x ↦ (let w = expression_found AsValue i there kind x in (w.0, inr (inr (inr w.1))))
        ]
      ]
    ]
    expression_found position (Field' p e this x) span kind h = elim (either (dot_fault (tree e) (name_of x)) _ kind h) [
      | inl y ↦ (let w = dot_found e this x span kind y in (w.0, inl w.1))
      | inr y ↦ elim (either (struct_fault (is_for_place position) (tree (Field' p e this x))) (expression_fault true (tree e)) kind y) [
        | inl z ↦ (let w = struct_found position (Field' p e this x) span kind z in (w.0, inr (inl w.1)))
        | inr z ↦ (let w = expression_found (AsPlace this) e this kind z in (w.0, inr (inr w.1)))
      ]
    ]
    expression_found position (PointerField' p e this x) span kind h = elim (either (arrow_fault (tree e) (name_of x)) _ kind h) [
      | inl y ↦ (let w = arrow_found e this x span kind y in (w.0, inl w.1))
      | inr y ↦ elim (either (struct_fault (is_for_place position) (tree (PointerField' p e this x))) (expression_fault false (tree e)) kind y) [
        | inl z ↦ (let w = struct_found position (PointerField' p e this x) span kind z in (w.0, inr (inl w.1)))
        | inr z ↦ (let w = expression_found AsValue e this kind z in (w.0, inr (inr w.1)))
      ]
    ]
    expression_found position (Unary' op p e this) span kind h = elim (either (prefix_fault (is_for_place position) op (tree e) (tree (Unary' op p e this))) (expression_fault false (tree e)) kind h) [
      | inl y ↦ (let w = prefix_found position op e this (Unary' op p e this) span kind y in (w.0, inl w.1))
      | inr y ↦ (let w = expression_found AsValue e this kind y in (w.0, inr w.1))
    ]
    expression_found position (Binary' op p a this q b there) span kind h = elim (either (operand_fault (operator_rule op) (tree a)) _ kind h) [
      | inl y ↦ (let w = operand_found (operator_rule op) a this kind y in (w.0, inl w.1))
      | inr y ↦ elim (either (operand_fault (operator_rule op) (tree b)) _ kind y) [
        | inl z ↦ (let w = operand_found (operator_rule op) b there kind z in (w.0, inr (inl w.1)))
        | inr z ↦ elim (either (compared_fault (operator_rule op) (tree a) (tree b)) _ kind z) [
          | inl x ↦ (let w = compared_found (operator_rule op) a this b there kind x in (w.0, inr (inr (inl w.1))))
          | inr x ↦ elim (either (place_fault (is_for_place position) (tree (Binary' op p a this q b there))) _ kind x) [
            | inl v ↦ (let w = place_found position (Binary' op p a this q b there) span kind v in (w.0, inr (inr (inr (inl w.1)))))
            | inr v ↦ elim (either (expression_fault false (tree a)) (expression_fault false (tree b)) kind v) [
              | inl r ↦ (let w = expression_found AsValue a this kind r in (w.0, inr (inr (inr (inr (inl w.1))))))
              | inr r ↦ (let w = expression_found AsValue b there kind r in (w.0, inr (inr (inr (inr (inr w.1))))))
            ]
          ]
        ]
      ]
    ]
    expression_found position (Conditional' p c this q a there r b beyond) span kind h = elim (either (mistyped BoolType (tree c)) _ kind h) [
      | inl y ↦ (let w = mistyped_found BoolType c this kind y in (w.0, inl w.1))
      | inr y ↦ elim (either (arms_fault (tree a) (tree b)) _ kind y) [
        | inl z ↦ (let w = arms_found a b beyond kind z in (w.0, inr (inl w.1)))
        | inr z ↦ elim (either (place_fault (is_for_place position) (tree (Conditional' p c this q a there r b beyond))) _ kind z) [
          | inl x ↦ (let w = place_found position (Conditional' p c this q a there r b beyond) span kind x in (w.0, inr (inr (inl w.1))))
          | inr x ↦ elim (either (expression_fault false (tree c)) _ kind x) [
            | inl v ↦ (let w = expression_found AsValue c this kind v in (w.0, inr (inr (inr (inl w.1)))))
            | inr v ↦ elim (either (expression_fault false (tree a)) (expression_fault false (tree b)) kind v) [
              | inl m ↦ (let w = expression_found AsValue a there kind m in (w.0, inr (inr (inr (inr (inl w.1))))))
              | inr m ↦ (let w = expression_found AsValue b beyond kind m in (w.0, inr (inr (inr (inr (inr w.1))))))
            ]
          ]
        ]
      ]
    ]

    pub arguments_found : {m : _} (es : Row_of-Expression m) (kind : FaultKind) → arguments_fault (row_of es) ≡ Some kind → At kind (λ f. InArguments env at f es)
    arguments_found end_of-Expression kind h = absurd (cc h)
    arguments_found (more_of-Expression e span rest) kind h = elim (either (expression_fault false (tree e)) (arguments_fault (row_of rest)) kind h) [
      | inl q ↦ (let w = expression_found AsValue e span kind q in (w.0, inl w.1))
      | inr q ↦ (let w = arguments_found rest kind q in (w.0, inr w.1))
    ]
