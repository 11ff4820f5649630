-- What is wrong with an operand on the left that an operator does not take.
use Rattle.std.proofs.Common.{◌≡◌, refl, ap, false, Some}
use Rattle.c0_source.specs.declared.fault.Fault.{Fault}
use Rattle.c0_source.specs.declared.fault.FaultKind.TheVariants as k
use Rattle.c0_source.specs.declared.fault.Span.{Span}
use Rattle.c0_rules.specs.Types.{Environment, provided}
use Rattle.c0_rules.specs.Expressions.{Typing, Has, IsNull, OperatorRule, OnNumbers, Compares, Conjunction, Disjunction}
use Rattle.c0_rules.specs.FaultExpressions.{Told}
use Rattle.c0_types_operators.specs.Operators.{LeftCause, takes_left}

pub left_cause : (env : Environment) (f : Fault) (rule : OperatorRule) (x : Typing) (here : Span) → takes_left rule x ≡ false → Told k.TypeMismatch here f → LeftCause env f rule x here
left_cause env f (OnNumbers o) (Has a e) here h told = (ap (λ z. provided z (Some e)) h, told)
left_cause env f (OnNumbers o) (IsNull e) here h told = (refl, told)
left_cause env f (Compares r) x here h told = (h, told)
left_cause env f Conjunction (Has a e) here h told = (ap (λ z. provided z (Some e)) h, told)
left_cause env f Conjunction (IsNull e) here h told = (refl, told)
left_cause env f Disjunction (Has a e) here h told = (ap (λ z. provided z (Some e)) h, told)
left_cause env f Disjunction (IsNull e) here h told = (refl, told)
