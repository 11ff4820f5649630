-- What is wrong with a type or an expression, and at which place: the cause of each fault. Places stand in the trees of
-- the code alone, so causes are told of those trees, by recursion; what stands around a node is told by the rules.
use Rattle.std.specs.Prelude.{◌≡◌, ◌≢◌, ◌⊎◌, ℕ, suc, ◌&&◌, nat_lt, Bool, true, false, List, [], ◌∷◌, length, Option, Some, None}
use Rattle.c0_source.specs.declared.fault.Fault.{Fault}
use Rattle.c0_source.specs.declared.fault.FaultKind.{FaultKind}
use Rattle.c0_source.specs.declared.fault.FaultKind.TheVariants as k
use Rattle.c0_source.specs.declared.fault.Span.{Span}
use Rattle.c0_syntax.specs.declared.operator.PrefixOperator.{PrefixOperator}
use Rattle.c0_syntax.specs.declared.operator.PrefixOperator.TheVariants as o
use Rattle.c0_syntax.specs.declared.name.Name as n
use Rattle.c0_syntax.specs.declared.value_type.ValueType as u
use Rattle.c0_syntax.specs.declared.value_type.TypeKind.{TypeKind, Basic, Struct, Named, Pointer', Array'}
use Rattle.c0_syntax.specs.declared.expression.ExpressionKind.{ExpressionKind, Row_of-Expression, end_of-Expression, more_of-Expression, Number, Character, Truth, Null, Text, Variable, Parenthesized', Call', Alloc, AllocArray', Result, Length', Index', Field', PointerField', Unary', Binary', Conditional'}
use Rattle.c0_syntax.specs.Views.{name_of, type_of, expression_of_kind}
use Rattle.c0_rules.specs.Types.{ResolvedType, VoidType, IntType, BoolType, StructNamed, PointerTo, ArrayOf, Table, base_type, resolved_type, result_type, same_type, is_small, Name, StructEntry, Environment, cells_of}
use Rattle.c0_typed.specs.Trees.{Relation}
use Rattle.c0_rules.specs.Expressions.{OperatorRule, OnNumbers, Compares, Conjunction, Disjunction, operator_rule, is_equality, is_compared, Typing, Has, IsNull, Place, Context, local_of, Callee, takes, gives, as_wanted, compared, pointed, lengthed, callee, typed_expression, typed_place}

-- a fault of this kind at this place
abbrev pub Told : FaultKind → Span → Fault → Type 0
Told kind span fault = (fault.kind ≡ kind) × (fault.span ≡ span)

-- ---- types

-- `void` as a type of values, or a name that no typedef declares
abbrev pub TypeCause : Table ResolvedType → Fault → TypeKind → Span → Type 0
TypeCause typedefs fault (Basic base) span = (base_type base ≡ None) × Told k.VoidUse span fault
TypeCause typedefs fault (Struct x) span = ⊥
TypeCause typedefs fault (Named x) span = (typedefs (name_of x) ≡ None) × Told k.Syntax x.span fault
TypeCause typedefs fault (Pointer' p kind at) span = TypeCause typedefs fault kind at
TypeCause typedefs fault (Array' p kind at) span = TypeCause typedefs fault kind at

-- the same of a local or a parameter, which can't be a struct
abbrev pub SmallTypeCause : Table ResolvedType → Fault → u.ValueType → Type 0
SmallTypeCause typedefs fault ty =
    TypeCause typedefs fault ty.kind ty.span
    ⊎ ((r : ResolvedType) × (resolved_type typedefs (type_of ty) ≡ Some r) × (is_small r ≡ false) × Told k.NotSmall ty.span fault)

-- the same of a result, which may be `void`
abbrev pub ResultTypeCause : Table ResolvedType → Fault → u.ValueType → Type 0
ResultTypeCause typedefs fault ty = (result_type typedefs (type_of ty) ≡ None) × SmallTypeCause typedefs fault ty

-- the same of what memory holds: a struct must be complete
abbrev pub HeldTypeCause : Environment → Fault → u.ValueType → Type 0
HeldTypeCause env fault ty =
    TypeCause env.typedefs fault ty.kind ty.span
    ⊎ ((r : ResolvedType) × (resolved_type env.typedefs (type_of ty) ≡ Some r) × (cells_of env.structs r ≡ None) × Told k.StructNotComplete ty.span fault)

-- ---- expressions

-- where an expression stands: as a value, or as what `.` is applied to and what is assigned, which with all its parentheses is `whole`
pub data Position : Type 0 where
  AsValue : Position
  AsPlace : (whole : Span) → Position

-- whether an expression has a value; a void call has none
abbrev pub is_value : Typing → Bool
is_value (Has VoidType e) = false
is_value _ = true

-- whether an expression has NULL's own type
abbrev pub is_null : Typing → Bool
is_null (IsNull e) = true
is_null (Has r e) = false

-- whether this type is that of a pointer
abbrev pub is_pointer : ResolvedType → Bool
is_pointer (PointerTo r) = true
is_pointer _ = false

-- whether a comparison takes values of this type
abbrev pub is_comparable : Relation → Typing → Bool
is_comparable r (Has a e) = is_compared r a
is_comparable r (IsNull e) = is_equality r

-- whether two arms have a small type in common
abbrev pub has_common : Typing → Typing → Bool
has_common (Has a x) (Has b y) = same_type a b && is_small a
has_common (Has a x) (IsNull y) = is_pointer a
has_common (IsNull x) (Has b y) = is_pointer b
has_common (IsNull x) (IsNull y) = true

-- the elements of an array
abbrev pub element_of : Typing → Option ResolvedType
element_of (Has (ArrayOf r) e) = Some r
element_of _ = None

-- the name of a struct
abbrev pub struct_name : ResolvedType → Option Name
struct_name (StructNamed x) = Some x
struct_name _ = None

-- how many arguments there are
abbrev pub argument_count : {m : _} → Row_of-Expression m → ℕ
argument_count end_of-Expression = 0
argument_count (more_of-Expression e at rest) = suc (argument_count rest)

module _ (env : Environment) (at : Context) (fault : Fault) where
  -- what the rules give of an expression
  abbrev pub typed : ExpressionKind → Option Typing
  typed e = typed_expression env at (expression_of_kind e)

  -- a value of another type than the wanted one
  abbrev pub Mistyped : ResolvedType → ExpressionKind → Span → Type 0
  Mistyped want e span = (x : Typing) × (typed e ≡ Some x) × (is_value x ≡ true) × (as_wanted env want x ≡ None) × Told k.TypeMismatch span fault

  -- one of the arguments is
  abbrev pub MistypedArgument : {m : _} → Row_of-Expression m → List ResolvedType → Type 0
  MistypedArgument end_of-Expression us = ⊥
  MistypedArgument (more_of-Expression e span rest) [] = ⊥
  MistypedArgument (more_of-Expression e span rest) (u ∷ us) = Mistyped u e span ⊎ MistypedArgument rest us

  -- a call of a name that is not declared, with another number of arguments, or with one of another type
  abbrev pub CallCause : {m : _} → n.Name → Row_of-Expression m → Span → Type 0
  CallCause x es span =
      ((callee env (name_of x) ≡ None) × Told k.UnknownName x.span fault)
      ⊎ ((c : Callee) × (callee env (name_of x) ≡ Some c) × (((argument_count es ≢ length (takes c)) × Told k.ArgumentCount span fault) ⊎ MistypedArgument es (takes c)))

  -- a void call where a value is needed
  abbrev pub VoidCall : n.Name → Span → Type 0
  VoidCall x span = (c : Callee) × (callee env (name_of x) ≡ Some c) × (gives c ≡ VoidType) × Told k.VoidUse span fault

  -- a value on the left that a comparison takes with none on the right, or else two that it doesn't take together
  abbrev pub ComparedCause : OperatorRule → ExpressionKind → Span → ExpressionKind → Span → Type 0
  ComparedCause (Compares r) a here b there =
      ((x : Typing) × (typed a ≡ Some x) × (is_value x ≡ true) × (is_comparable r x ≡ false) × Told k.TypeMismatch here fault)
      ⊎ ((x : Typing) × (y : Typing) × (typed a ≡ Some x) × (typed b ≡ Some y) × (is_value x ≡ true) × (is_value y ≡ true)
      × (is_comparable r x ≡ true) × (compared env r x y ≡ None) × Told k.TypeMismatch there fault)
  ComparedCause _ a here b there = ⊥

  -- an operand of another type than the operator's
  abbrev pub OperandCause : OperatorRule → ExpressionKind → Span → Type 0
  OperandCause (OnNumbers o) e span = Mistyped IntType e span
  OperandCause (Compares r) e span = ⊥
  OperandCause Conjunction e span = Mistyped BoolType e span
  OperandCause Disjunction e span = Mistyped BoolType e span

  -- two arms that have no small type in common
  abbrev pub ArmsCause : ExpressionKind → ExpressionKind → Span → Type 0
  ArmsCause a b span =
      (x : Typing) × (y : Typing) × (typed a ≡ Some x) × (typed b ≡ Some y) × (is_value x ≡ true) × (is_value y ≡ true) × (has_common x y ≡ false) × Told k.TypeMismatch span fault

  -- `*` or `->` on NULL itself, or on a value that is no pointer
  abbrev pub PointerCause : ExpressionKind → Span → Span → Type 0
  PointerCause e span sign =
      (x : Typing) × (typed e ≡ Some x)
      × (((is_null x ≡ true) × Told k.NullDereference sign fault) ⊎ ((is_null x ≡ false) × (is_value x ≡ true) × (pointed env x ≡ None) × Told k.TypeMismatch span fault))

  -- an index of what is no array, one that is no number, or elements that are structs before their definition
  abbrev pub IndexCause : ExpressionKind → Span → ExpressionKind → Span → Span → Type 0
  IndexCause a here i there span =
      ((x : Typing) × (typed a ≡ Some x) × (is_value x ≡ true) × (element_of x ≡ None) × Told k.TypeMismatch here fault)
      ⊎ Mistyped IntType i there
      ⊎ ((x : Typing) × (r : ResolvedType) × (typed a ≡ Some x) × (element_of x ≡ Some r) × (cells_of env.structs r ≡ None) × Told k.StructNotComplete span fault)

  -- a field of what is no struct, of a struct before its definition, or that the struct doesn't have
  abbrev pub FieldCause : ResolvedType → Span → n.Name → Span → Type 0
  FieldCause r here x span =
      ((struct_name r ≡ None) × Told k.TypeMismatch here fault)
      ⊎ ((m : Name) × (struct_name r ≡ Some m) × (env.structs m ≡ None) × Told k.StructNotComplete span fault)
      ⊎ ((m : Name) × (d : StructEntry) × (struct_name r ≡ Some m) × (env.structs m ≡ Some d) × (d.fields (name_of x) ≡ None) × Told k.UnknownField x.span fault)

  -- `e.x`, by the place that e is
  abbrev pub DotCause : ExpressionKind → Span → n.Name → Span → Type 0
  DotCause e here x span = (q : Place) × (typed_place env at (expression_of_kind e) ≡ Some q) × FieldCause q.resolved here x span

  -- `e->x`, by what e points to
  abbrev pub ArrowCause : ExpressionKind → Span → n.Name → Span → Type 0
  ArrowCause e here x span =
      PointerCause e here here
      ⊎ ((y : Typing) × (q : Place) × (typed e ≡ Some y) × (pointed env y ≡ Some q) × FieldCause q.resolved here x span)

  -- a struct where a small value is needed
  abbrev pub StructValue : Position → ExpressionKind → Span → Type 0
  StructValue AsValue e span = (q : Place) × (typed_place env at (expression_of_kind e) ≡ Some q) × (is_small q.resolved ≡ false) × Told k.NotSmall span fault
  StructValue (AsPlace whole) e span = ⊥

  -- a value where a struct's place is needed
  abbrev pub NoPlace : Position → ExpressionKind → Span → Type 0
  NoPlace AsValue e span = ⊥
  NoPlace (AsPlace whole) e span = (x : Typing) × (typed e ≡ Some x) × (is_value x ≡ true) × Told k.TypeMismatch whole fault

  -- an operator before its operand
  abbrev pub PrefixCause : Position → PrefixOperator → ExpressionKind → Span → ExpressionKind → Span → Type 0
  PrefixCause position o.Not e here whole span = Mistyped BoolType e here ⊎ NoPlace position whole span
  PrefixCause position o.Complement e here whole span = Mistyped IntType e here ⊎ NoPlace position whole span
  PrefixCause position o.Negate e here whole span = Mistyped IntType e here ⊎ NoPlace position whole span
  PrefixCause position o.Dereference e here whole span = PointerCause e here span ⊎ StructValue position whole span

  abbrev mutual
    -- the fault has its cause somewhere in this expression
    pub InExpression : Position → ExpressionKind → Span → Type 0
    InExpression position (Number m) span = NoPlace position (Number m) span
    InExpression position (Character c) span = ((nat_lt c 128 ≡ false) × Told k.BadToken span fault) ⊎ NoPlace position (Character c) span
    InExpression position (Truth b) span = NoPlace position (Truth b) span
    InExpression position Null span = NoPlace position Null span
    InExpression position (Text text) span = NoPlace position (Text text) span
    InExpression position (Variable x) span = ((local_of at.locals (name_of x) ≡ None) × Told k.UnknownName x.span fault) ⊎ NoPlace position (Variable x) span
    InExpression position (Parenthesized' p e here) span = InExpression position e here
    InExpression position (Call' x shape es) span = CallCause x es span ⊎ VoidCall x span ⊎ NoPlace position (Call' x shape es) span ⊎ InArguments es
    InExpression position (Alloc ty) span = HeldTypeCause env fault ty ⊎ NoPlace position (Alloc ty) span
    InExpression position (AllocArray' ty p e here) span = HeldTypeCause env fault ty ⊎ Mistyped IntType e here ⊎ NoPlace position (AllocArray' ty p e here) span ⊎ InExpression AsValue e here
    InExpression position Result span = ((at.result ≡ None) × Told k.BadContract span fault) ⊎ NoPlace position Result span
    InExpression position (Length' p e here) span =
        ((x : Typing) × (typed e ≡ Some x) × (is_value x ≡ true) × (lengthed env x ≡ None) × Told k.TypeMismatch here fault)
        ⊎ NoPlace position (Length' p e here) span ⊎ InExpression AsValue e here
    InExpression position (Index' p a here q i there) span =
        IndexCause a here i there span ⊎ StructValue position (Index' p a here q i there) span ⊎ InExpression AsValue a here ⊎ InExpression AsValue i there
    InExpression position (Field' p e here x) span = DotCause e here x span ⊎ StructValue position (Field' p e here x) span ⊎ InExpression (AsPlace here) e here
    InExpression position (PointerField' p e here x) span = ArrowCause e here x span ⊎ StructValue position (PointerField' p e here x) span ⊎ InExpression AsValue e here
    InExpression position (Unary' op p e here) span = PrefixCause position op e here (Unary' op p e here) span ⊎ InExpression AsValue e here
    InExpression position (Binary' op p a here q b there) span =
        OperandCause (operator_rule op) a here ⊎ OperandCause (operator_rule op) b there ⊎ ComparedCause (operator_rule op) a here b there
        ⊎ NoPlace position (Binary' op p a here q b there) span ⊎ InExpression AsValue a here ⊎ InExpression AsValue b there
    InExpression position (Conditional' p c here q a there r b beyond) span =
        Mistyped BoolType c here ⊎ ArmsCause a b beyond ⊎ NoPlace position (Conditional' p c here q a there r b beyond) span
        ⊎ InExpression AsValue c here ⊎ InExpression AsValue a there ⊎ InExpression AsValue b beyond

    -- ... in one of these arguments
    pub InArguments : {m : _} → Row_of-Expression m → Type 0
    InArguments end_of-Expression = ⊥
    InArguments (more_of-Expression e span rest) = InExpression AsValue e span ⊎ InArguments rest
