-- Forms of expressions, and what is called.
use Rattle.std.specs.Prelude.{◌≡◌, ◌≢◌, ◌⊎◌, ◌||◌, List, [], ◌∷◌, length, Bool, true, false, Option, Some, None}
use Rattle.c0_source.specs.declared.fault.Fault.{Fault}
use Rattle.c0_source.specs.declared.fault.FaultKind.TheVariants as k
use Rattle.c0_source.specs.declared.fault.Span.{Span}
use Rattle.c0_syntax.specs.declared.expression.Expression as e
use Rattle.c0_syntax.specs.declared.expression.ExpressionKind.{ExpressionKind, Parenthesized', Call', Index', Field', PointerField', Unary', Binary', Conditional'}
use Rattle.c0_syntax.specs.declared.name.Name as n
use Rattle.c0_syntax.specs.declared.operator.PrefixOperator.{PrefixOperator}
use Rattle.c0_syntax.specs.declared.operator.PrefixOperator.TheVariants as o
use Rattle.c0_syntax.specs.Views.{expression_of_kind, name_of}
use Rattle.c0_typed.specs.Trees as y
use Rattle.c0_typed.specs.Views as v
use Rattle.c0_rules.specs.Types as t
use Rattle.c0_rules.specs.Expressions as x
use Rattle.c0_rules.specs.FaultExpressions.{AsValue, ComparedCause, InExpression, Mistyped, OperandCause, PointerCause, Told, is_comparable, is_null}
use Rattle.c0_types_places.specs.Places.{PointedCause}

-- whether an expression has the form of a place, or stands in parentheses
abbrev pub has_form : ExpressionKind → Bool
has_form (Parenthesized' p e at) = true
has_form (Index' p a at q i here) = true
has_form (Field' p a at n) = true
has_form (PointerField' p a at n) = true
has_form (Unary' o.Dereference p a at) = true
has_form _ = false

-- whether an expression is one of two values by a condition
abbrev pub is_conditional : ExpressionKind → Bool
is_conditional (Conditional' p c at q a here r b there) = true
is_conditional _ = false

-- whether an expression has two operands, or is a call, an element or a field
abbrev pub is_composed : ExpressionKind → Bool
is_composed (Call' x shape es) = true
is_composed (Index' p a at q i here) = true
is_composed (Field' p a at n) = true
is_composed (PointerField' p a at n) = true
is_composed (Binary' op p a at q b here) = true
is_composed _ = false

-- what is wrong with the operand of an operator before it, where a value is needed
abbrev pub UnaryCause : t.Environment → x.Context → Fault → PrefixOperator → ExpressionKind → Span → Span → Type 0
UnaryCause env at fault o.Not e here span = Mistyped env at fault t.BoolType e here
UnaryCause env at fault o.Complement e here span = Mistyped env at fault t.IntType e here
UnaryCause env at fault o.Negate e here span = Mistyped env at fault t.IntType e here
UnaryCause env at fault o.Dereference e here span =
    PointerCause env at fault e here span
    ⊎ ((q : x.Place) × (t.and_so (x.typed_expression env at (expression_of_kind e)) (x.pointed env) ≡ Some q) × (t.is_small q.resolved ≡ false) × Told k.NotSmall span fault)

-- nothing is given, or a void call, which has no value
abbrev pub NoValue : Option x.Typing → Type 0
NoValue o = (o ≡ None) ⊎ ((e : y.Exp) × (o ≡ Some (x.Has t.VoidType e)))

-- what is wrong with the operand of an operator before it
abbrev pub PrefixedCause : t.Environment → Fault → PrefixOperator → x.Typing → Span → Span → Type 0
PrefixedCause env fault o.Not operand here span = (x.as_wanted env t.BoolType operand ≡ None) × Told k.TypeMismatch here fault
PrefixedCause env fault o.Complement operand here span = (x.as_wanted env t.IntType operand ≡ None) × Told k.TypeMismatch here fault
PrefixedCause env fault o.Negate operand here span = (x.as_wanted env t.IntType operand ≡ None) × Told k.TypeMismatch here fault
PrefixedCause env fault o.Dereference operand here span =
    PointedCause env fault operand here span ⊎ ((q : x.Place) × (x.pointed env operand ≡ Some q) × (t.is_small q.resolved ≡ false) × Told k.NotSmall span fault)

-- an expression whose value is not used: small, NULL, or a void call
abbrev pub discarded : x.Typing → Option y.Exp
discarded (x.Has a e) = t.provided (t.is_small a || t.same_type t.VoidType a) (Some e)
discarded (x.IsNull e) = Some (x.retyped y.IntTy e)

-- a fault in one of the arguments, as code holds them
abbrev pub InAmong : t.Environment → x.Context → Fault → List e.Expression → Type 0
InAmong env at fault [] = ⊥
InAmong env at fault (a ∷ rest) = InExpression env at fault AsValue a.kind a.span ⊎ InAmong env at fault rest

-- one of the arguments has another type than its parameter
abbrev pub MistypedAmong : t.Environment → x.Context → Fault → List e.Expression → List t.ResolvedType → Type 0
MistypedAmong env at fault [] us = ⊥
MistypedAmong env at fault (a ∷ rest) [] = ⊥
MistypedAmong env at fault (a ∷ rest) (u ∷ us) = Mistyped env at fault u a.kind a.span ⊎ MistypedAmong env at fault rest us

-- another number of arguments, or one of another type
abbrev pub ArgumentsCause : t.Environment → x.Context → Fault → List e.Expression → List t.ResolvedType → Span → Type 0
ArgumentsCause env at fault es us span = ((length es ≢ length us) × Told k.ArgumentCount span fault) ⊎ MistypedAmong env at fault es us

-- what is wrong with a call, but for a fault in an argument
abbrev pub CalledCause : t.Environment → x.Context → Fault → n.Name → List e.Expression → Span → Type 0
CalledCause env at fault name es span =
    ((x.callee env (name_of name) ≡ None) × Told k.UnknownName name.span fault)
    ⊎ ((c : x.Callee) × (x.callee env (name_of name) ≡ Some c) × ArgumentsCause env at fault es (x.takes c) span)

-- two operands that an operator doesn't take
abbrev pub BinaryCause : t.Environment → x.Context → Fault → x.OperatorRule → ExpressionKind → Span → ExpressionKind → Span → Type 0
BinaryCause env at fault rule a here b there = OperandCause env at fault rule a here ⊎ OperandCause env at fault rule b there ⊎ ComparedCause env at fault rule a here b there
