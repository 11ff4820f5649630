-- Calls, step by step: what is called, its arguments, and the call.
use Rattle.std.proofs.Common.{◌≡◌, List, Option, Some, None, inl, inr}
use Rattle.std.specs.Prelude.{◌⊎◌}
use Rattle.c0_source.specs.declared.fault.Fault.{Fault}
use Rattle.c0_source.specs.declared.fault.Span.{Span}
use Rattle.c0_syntax.specs.declared.expression.Expression.{Expression}
use Rattle.c0_syntax.specs.declared.name.Name as n
use Rattle.c0_syntax.specs.Trees as s
use Rattle.c0_syntax.specs.Views.{name_of}
use Rattle.c0_typed.specs.Trees as t
use Rattle.c0_rules.specs.Types.{Environment, Name, and_so}
use Rattle.c0_rules.specs.Expressions.{Callee, Context, Has, Typing, call_of, callee, gives, takes, typed_arguments, typed_expression}
use Rattle.c0_types_expressions.specs.Forms.{ArgumentsCause, CalledCause, InAmong}
use Rattle.c0_types_expressions.proofs.Refusals.{none_first, none_then}

module _ (env : Environment) (at : Context) where
  abbrev with_arguments : Callee → Option t.Exps → Option Typing
  with_arguments c o = and_so o (λ xs. Some (Has (gives c) (call_of c xs)))

  abbrev of_this : s.Expressions → Callee → Option Typing
  of_this es c = with_arguments c (typed_arguments env at es (takes c))

  pub call_refused : {K : Type 0} (x : Name) (es : s.Expressions) → K ⊎ (callee env x ≡ None) → K ⊎ (typed_expression env at (s.Call x es) ≡ None)
  call_refused x es h = none_first (callee env x) (of_this es) h

  pub arguments_refused : {K : Type 0} (x : Name) (es : s.Expressions) (c : Callee) → callee env x ≡ Some c → K ⊎ (typed_arguments env at es (takes c) ≡ None) → K ⊎ (typed_expression env at (s.Call x es) ≡ None)
  arguments_refused x es c e h = none_then (callee env x) (of_this es) c e (none_first (typed_arguments env at es (takes c)) (λ xs. Some (Has (gives c) (call_of c xs))) h)

  pub call_told : {K : Type 0} (f : Fault) (x : n.Name) (es : List Expression) (span : Span) (c : Callee) → callee env (name_of x) ≡ Some c → K ⊎ ArgumentsCause env at f es (takes c) span ⊎ InAmong env at f es
      → K ⊎ CalledCause env at f x es span ⊎ InAmong env at f es
  call_told f x es span c e (inl h) = inl h
  call_told f x es span c e (inr (inl h)) = inr (inl (inr (c, e, h)))
  call_told f x es span c e (inr (inr h)) = inr (inr h)
