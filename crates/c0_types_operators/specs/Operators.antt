-- What operators work on as code holds it, and what is wrong with their operands.
use Rattle.std.specs.Prelude.{◌≡◌, ◌⊎◌, Bool, false, List, None}
use Rattle.c0_source.specs.declared.fault.Fault.{Fault}
use Rattle.c0_source.specs.declared.fault.FaultKind.TheVariants as k
use Rattle.c0_source.specs.declared.fault.Span.{Span}
use Rattle.c0_typed.specs.Trees as y
use Rattle.c0_typed.specs.Views as v
use Rattle.c0_typed.specs.declared.tree.Expression.{Expression as TypedExpression}
use Rattle.c0_rules.specs.Types as t
use Rattle.c0_rules.specs.Expressions as x
use Rattle.c0_rules.specs.FaultExpressions.{Told, is_comparable}
use Rattle.c0_types_operators.specs.declared.operators.OperatorRule.{OperatorRule}
use Rattle.c0_types_operators.specs.declared.operators.OperatorRule.TheVariants as r

-- what an operator works on
abbrev pub rule_of : OperatorRule → x.OperatorRule
rule_of (r.OnNumbers o) = x.OnNumbers o
rule_of (r.Compares c) = x.Compares (v.relation_of c)
rule_of r.Conjunction = x.Conjunction
rule_of r.Disjunction = x.Disjunction

-- whether an operator takes an operand of this type on its left, with some operand on its right
abbrev pub takes_left : x.OperatorRule → x.Typing → Bool
takes_left (x.OnNumbers o) (x.Has a e) = t.same_type a t.IntType
takes_left (x.OnNumbers o) (x.IsNull e) = false
takes_left (x.Compares r) a = is_comparable r a
takes_left x.Conjunction (x.Has a e) = t.same_type a t.BoolType
takes_left x.Conjunction (x.IsNull e) = false
takes_left x.Disjunction (x.Has a e) = t.same_type a t.BoolType
takes_left x.Disjunction (x.IsNull e) = false

-- two operands
abbrev pub pair_of : List t.Name → TypedExpression × TypedExpression → y.Exp × y.Exp
pair_of texts p = (v.exp_of texts p.0, v.exp_of texts p.1)

-- what is wrong with the operands of an operator, which stand at these places
abbrev pub OperatedCause : t.Environment → Fault → x.OperatorRule → x.Typing → x.Typing → Span → Span → Type 0
OperatedCause env fault (x.OnNumbers o) a b here there =
    ((x.as_wanted env t.IntType a ≡ None) × Told k.TypeMismatch here fault) ⊎ ((x.as_wanted env t.IntType b ≡ None) × Told k.TypeMismatch there fault)
OperatedCause env fault (x.Compares c) a b here there = Told k.TypeMismatch there fault
OperatedCause env fault x.Conjunction a b here there =
    ((x.as_wanted env t.BoolType a ≡ None) × Told k.TypeMismatch here fault) ⊎ ((x.as_wanted env t.BoolType b ≡ None) × Told k.TypeMismatch there fault)
OperatedCause env fault x.Disjunction a b here there =
    ((x.as_wanted env t.BoolType a ≡ None) × Told k.TypeMismatch here fault) ⊎ ((x.as_wanted env t.BoolType b ≡ None) × Told k.TypeMismatch there fault)

-- an operand on the left, at this place, that the operator takes with none on the right
abbrev pub LeftCause : t.Environment → Fault → x.OperatorRule → x.Typing → Span → Type 0
LeftCause env fault (x.OnNumbers o) a here = (x.as_wanted env t.IntType a ≡ None) × Told k.TypeMismatch here fault
LeftCause env fault (x.Compares c) a here = (is_comparable c a ≡ false) × Told k.TypeMismatch here fault
LeftCause env fault x.Conjunction a here = (x.as_wanted env t.BoolType a ≡ None) × Told k.TypeMismatch here fault
LeftCause env fault x.Disjunction a here = (x.as_wanted env t.BoolType a ≡ None) × Told k.TypeMismatch here fault
