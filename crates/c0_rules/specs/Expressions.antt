-- The static rules of expressions: what one is once its names are replaced, or none where it breaks a rule.
use Rattle.std.specs.Prelude.{ℕ, ◌&&◌, nat_lt, Bool, true, false, pos, List, [], ◌∷◌, Option, Some, None, find, bytes_eq}
use Rattle.cells.specs.declared.int32.Int32Op.{Int32Op}
use Rattle.cells.specs.declared.int32.Int32Op.TheVariants as i
use Rattle.cells.specs.Numbers.{wrap32}
use Rattle.c0_source.specs.declared.kind.Operator.{Operator}
use Rattle.c0_source.specs.declared.kind.Operator.TheVariants as o
use Rattle.c0_syntax.specs.declared.operator.PrefixOperator.{PrefixOperator}
use Rattle.c0_syntax.specs.declared.operator.PrefixOperator.TheVariants as p
use Rattle.c0_syntax.specs.Trees.{ValueType, Expression, Number, Character, Truth, Null, Text, Variable, Parenthesized, Call, Alloc, AllocArray, Result, Length, Index, Field, PointerField, Unary, Binary, Conditional, Expressions, none, more}
use Rattle.c0_typed.specs.Values as v
use Rattle.c0_typed.specs.Trees as t
use Rattle.c0_rules.specs.Types.{and_so, provided, Name, number_in, ResolvedType, VoidType, IntType, BoolType, CharType, StringType, StructNamed, PointerTo, ArrayOf, same_type, resolved_type, is_small, Signature, Environment, numbered, cells_of, output_takes, output_named}

-- ---- operators

-- what an operator between two operands works on
pub data OperatorRule : Type 0 where
  OnNumbers : Int32Op → OperatorRule
  Compares : t.Relation → OperatorRule
  Conjunction : OperatorRule
  Disjunction : OperatorRule

-- the rule of each operator
abbrev pub operator_rule : Operator → OperatorRule
operator_rule o.Or = Disjunction
operator_rule o.And = Conjunction
operator_rule o.BitOr = OnNumbers i.Or
operator_rule o.BitXor = OnNumbers i.Xor
operator_rule o.BitAnd = OnNumbers i.And
operator_rule o.Equal = Compares t.Equal
operator_rule o.NotEqual = Compares t.Unequal
operator_rule o.Less = Compares t.Below
operator_rule o.LessEqual = Compares t.AtMost
operator_rule o.Greater = Compares t.Above
operator_rule o.GreaterEqual = Compares t.AtLeast
operator_rule o.ShiftLeft = OnNumbers i.Shl
operator_rule o.ShiftRight = OnNumbers i.Shr
operator_rule o.Add = OnNumbers i.Add
operator_rule o.Subtract = OnNumbers i.Sub
operator_rule o.Multiply = OnNumbers i.Mul
operator_rule o.Divide = OnNumbers i.Div
operator_rule o.Modulo = OnNumbers i.Mod

-- whether values of a type may be compared so: equality takes all small types but strings, order numbers and characters
abbrev pub is_compared : t.Relation → ResolvedType → Bool
is_compared t.Equal StringType = false
is_compared t.Equal a = is_small a
is_compared t.Unequal StringType = false
is_compared t.Unequal a = is_small a
is_compared r IntType = true
is_compared r CharType = true
is_compared r _ = false

-- whether a comparison is one of equality
abbrev pub is_equality : t.Relation → Bool
is_equality t.Equal = true
is_equality t.Unequal = true
is_equality _ = false

-- ---- what an expression is

-- An expression with its type, `void` for a call without a result; or one that has NULL's own type.
pub data Typing : Type 0 where
  Has : ResolvedType → t.Exp → Typing
  IsNull : t.Exp → Typing

-- a part of the heap, with the type that it holds
pub record Place : Type 0 where
  pub resolved : ResolvedType
  pub place : t.Place

-- a local in scope
pub record Local : Type 0 where
  pub name : Name
  pub number : ℕ
  pub resolved : ResolvedType

-- where an expression stands: the locals in scope, and the type of `\result` inside `ensures` of a function that has one
pub record Context : Type 0 where
  pub locals : List Local
  pub result : Option ResolvedType

-- the local of a name
abbrev pub local_of : List Local → Name → Option Local
local_of locals n = find (λ l. bytes_eq n l.name) locals

-- NULL's own type becomes that of a pointer to this type
abbrev pub retyped : t.Ty → t.Exp → t.Exp
retyped u (t.Null w) = t.Null u
retyped u (t.Choose w c a b) = t.Choose (t.PointerTy u) c (retyped u a) (retyped u b)
retyped u e = e

-- what is called: an output call, or a function by its number
pub data Callee : Type 0 where
  ToOutput : t.Output → Callee
  ToFunction : ℕ → Signature → Callee

-- the types of the arguments
abbrev pub takes : Callee → List ResolvedType
takes (ToOutput o) = output_takes o
takes (ToFunction k f) = f.parameters

-- the type of the call
abbrev pub gives : Callee → ResolvedType
gives (ToOutput o) = VoidType
gives (ToFunction k f) = f.result

-- the call with its arguments
abbrev pub call_of : Callee → t.Exps → t.Exp
call_of (ToOutput o) arguments = t.Out o arguments
call_of (ToFunction k f) arguments = t.Call k arguments

module _ (env : Environment) where
  -- a type as in typed trees
  abbrev pub num : ResolvedType → t.Ty
  num a = numbered env.struct_names a

  -- NULL where this type is wanted: every pointer type has it
  abbrev pub null_as : ResolvedType → t.Exp → Option t.Exp
  null_as (PointerTo a) e = Some (retyped (num a) e)
  null_as _ e = None

  -- an expression where this type is wanted
  abbrev pub as_wanted : ResolvedType → Typing → Option t.Exp
  as_wanted want (Has a e) = provided (same_type a want) (Some e)
  as_wanted want (IsNull e) = null_as want e

  -- the same, of an expression that may break a rule
  abbrev pub wanted : ResolvedType → Option Typing → Option t.Exp
  wanted want o = and_so o (as_wanted want)

  -- two operands of this type, put together
  abbrev pub paired : ResolvedType → ResolvedType → (t.Exp → t.Exp → t.Exp) → Typing → Typing → Option Typing
  paired want gives build x y = and_so (as_wanted want x) (λ a. and_so (as_wanted want y) (λ b. Some (Has gives (build a b))))

  -- a comparison of two operands of one type
  abbrev pub compared : t.Relation → Typing → Typing → Option Typing
  compared r (Has a x) (Has b y) = provided (same_type a b && is_compared r a) (Some (Has BoolType (t.Compare (num a) r x y)))
  compared r (Has a x) (IsNull y) = provided (is_equality r) (and_so (null_as a y) (λ z. Some (Has BoolType (t.Compare (num a) r x z))))
  compared r (IsNull x) (Has b y) = provided (is_equality r) (and_so (null_as b x) (λ z. Some (Has BoolType (t.Compare (num b) r z y))))
  compared r (IsNull x) (IsNull y) =
      provided (is_equality r) (Some (Has BoolType (t.Compare (t.PointerTy t.IntTy) r (retyped t.IntTy x) (retyped t.IntTy y))))

  -- an operator between two operands
  abbrev pub operated : OperatorRule → Typing → Typing → Option Typing
  operated (OnNumbers o) x y = paired IntType IntType (t.Binary o) x y
  operated (Compares r) x y = compared r x y
  operated Conjunction x y = paired BoolType BoolType t.And x y
  operated Disjunction x y = paired BoolType BoolType t.Or x y

  -- one of two arms of one small type; of two that are NULL it has NULL's own type
  abbrev pub chosen : t.Exp → Typing → Typing → Option Typing
  chosen c (Has a x) (Has b y) = provided (same_type a b && is_small a) (Some (Has a (t.Choose (num a) c x y)))
  chosen c (Has a x) (IsNull y) = and_so (null_as a y) (λ z. Some (Has a (t.Choose (num a) c x z)))
  chosen c (IsNull x) (Has b y) = and_so (null_as b x) (λ z. Some (Has b (t.Choose (num b) c z y)))
  chosen c (IsNull x) (IsNull y) = Some (IsNull (t.Choose (t.PointerTy t.IntTy) c x y))

  -- what a pointer points to; NULL points to nothing
  abbrev pub pointed : Typing → Option Place
  pointed (Has (PointerTo a) e) = Some (record { resolved = a; place = t.Deref (num a) e })
  pointed _ = None

  -- an element of an array; a struct must be complete
  abbrev pub indexed : Typing → t.Exp → Option Place
  indexed (Has (ArrayOf a) e) i = and_so (cells_of env.structs a) (λ c. Some (record { resolved = a; place = t.Index (num a) e i }))
  indexed _ i = None

  -- a field of a complete struct
  abbrev pub field_at : ResolvedType → t.Place → Name → Option Place
  field_at (StructNamed s) q n =
      and_so (env.structs s) (λ d. and_so (d.fields n) (λ f. Some (record { resolved = f.1; place = t.Field (number_in env.struct_names s) q f.0 })))
  field_at _ q n = None

  -- a field of what a place holds
  abbrev pub fielded : Name → Place → Option Place
  fielded n q = field_at q.resolved q.place n

  -- the value at a place, where it is small
  abbrev pub read_of : Place → Option Typing
  read_of q = provided (is_small q.resolved) (Some (Has q.resolved (t.Load (num q.resolved) q.place)))

  -- what a prefix `*` finds
  abbrev pub dereferenced : PrefixOperator → Typing → Option Place
  dereferenced p.Dereference x = pointed x
  dereferenced _ x = None

  -- an operator before its operand
  abbrev pub prefixed : PrefixOperator → Typing → Option Typing
  prefixed p.Not x = and_so (as_wanted BoolType x) (λ a. Some (Has BoolType (t.Unary t.Not a)))
  prefixed p.Complement x = and_so (as_wanted IntType x) (λ a. Some (Has IntType (t.Unary t.Complement a)))
  prefixed p.Negate x = and_so (as_wanted IntType x) (λ a. Some (Has IntType (t.Unary t.Negate a)))
  prefixed p.Dereference x = and_so (pointed x) read_of

  -- the length of an array
  abbrev pub lengthed : Typing → Option Typing
  lengthed (Has (ArrayOf a) e) = Some (Has IntType (t.Length (num a) e))
  lengthed _ = None

  -- a type that memory can hold here
  abbrev pub held_type : ValueType → Option ResolvedType
  held_type a = and_so (resolved_type env.typedefs a) (λ r. and_so (cells_of env.structs r) (λ c. Some r))

  -- an output call, or else a function that is declared before
  abbrev pub callee_or : Name → Option t.Output → Option Callee
  callee_or n (Some o) = Some (ToOutput o)
  callee_or n None = and_so (env.functions n) (λ f. Some (ToFunction (number_in env.function_names n) f))

  -- what a name calls
  abbrev pub callee : Name → Option Callee
  callee n = callee_or n (output_named env.conio n)

  module _ (at : Context) where
    abbrev mutual
      -- an expression; one whose value is a struct has none
      pub typed_expression : Expression → Option Typing
      typed_expression (Number n) = Some (Has IntType (t.Constant (v.Number (wrap32 (pos n)))))
      typed_expression (Character c) = provided (nat_lt c 128) (Some (Has CharType (t.Constant (v.Letter c))))
      typed_expression (Truth b) = Some (Has BoolType (t.Constant (v.Truth b)))
      typed_expression Null = Some (IsNull (t.Null t.IntTy))
      typed_expression (Text x) = Some (Has StringType (t.Constant (v.Text x)))
      typed_expression (Variable n) = and_so (local_of at.locals n) (λ l. Some (Has l.resolved (t.Local l.number)))
      typed_expression (Parenthesized a) = typed_expression a
      typed_expression (Call n arguments) = and_so (callee n) (λ c. and_so (typed_arguments arguments (takes c)) (λ xs. Some (Has (gives c) (call_of c xs))))
      typed_expression (Alloc a) = and_so (held_type a) (λ r. Some (Has (PointerTo r) (t.Alloc (num r))))
      typed_expression (AllocArray a n) =
          and_so (held_type a) (λ r. and_so (wanted IntType (typed_expression n)) (λ x. Some (Has (ArrayOf r) (t.AllocArray (num r) x))))
      typed_expression Result = and_so at.result (λ r. Some (Has r (t.Local 0)))
      typed_expression (Length a) = and_so (typed_expression a) lengthed
      typed_expression (Index a k) = and_so (and_so (typed_expression a) (λ x. and_so (wanted IntType (typed_expression k)) (indexed x))) read_of
      typed_expression (Field a n) = and_so (and_so (typed_place a) (fielded n)) read_of
      typed_expression (PointerField a n) = and_so (and_so (and_so (typed_expression a) pointed) (fielded n)) read_of
      typed_expression (Unary o a) = and_so (typed_expression a) (prefixed o)
      typed_expression (Binary o a b) = and_so (typed_expression a) (λ x. and_so (typed_expression b) (operated (operator_rule o) x))
      typed_expression (Conditional c a b) =
          and_so (wanted BoolType (typed_expression c)) (λ z. and_so (typed_expression a) (λ x. and_so (typed_expression b) (chosen z x)))

      -- a place of the heap, small or a struct: `*e`, `e[i]`, `e->f`, `d.f`, or one of these in parentheses
      pub typed_place : Expression → Option Place
      typed_place (Parenthesized a) = typed_place a
      typed_place (Index a k) = and_so (typed_expression a) (λ x. and_so (wanted IntType (typed_expression k)) (indexed x))
      typed_place (Field a n) = and_so (typed_place a) (fielded n)
      typed_place (PointerField a n) = and_so (and_so (typed_expression a) pointed) (fielded n)
      typed_place (Unary o a) = and_so (typed_expression a) (dereferenced o)
      typed_place _ = None

      -- arguments, as many as there are parameters
      pub typed_arguments : Expressions → List ResolvedType → Option t.Exps
      typed_arguments none [] = Some t.NoExp
      typed_arguments (more a rest) (u ∷ us) = and_so (wanted u (typed_expression a)) (λ x. and_so (typed_arguments rest us) (λ xs. Some (t.More x xs)))
      typed_arguments _ _ = None
