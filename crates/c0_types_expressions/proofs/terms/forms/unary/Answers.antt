use Rattle.std.proofs.Common.{◌≡◌, false, sym, subst, inr}
use Rattle.std.specs.Prelude.{◌⊎◌, IfErr}
use Rattle.std.proofs.lemmas.Result.{err_from_is_err_and}
use Rattle.c0_source.specs.declared.fault.FaultKind.TheVariants.{NotSmall, OutOfMemory, TypeMismatch}
use Rattle.c0_syntax.specs.declared.operator.PrefixOperator.{PrefixOperator}
use Rattle.c0_syntax.specs.declared.operator.PrefixOperator.TheVariants.{Dereference}
use Rattle.c0_rules.specs.Expressions.{prefixed}
use Rattle.c0_rules.specs.FaultExpressions.{Told}
use Rattle.c0_rules.specs.Types.{is_small}
use Rattle.c0_types_tables.specs.Views.{resolved_of}
use Rattle.c0_types_expressions.specs.Forms.{PrefixedCause}
use Rattle.c0_types_terms.specs.Terms.{env_of, place_of, typing_of}
use Rattle.c0_types_terms.proofs.Causes.{among, causes, none_causes}
use Rattle.c0_types_expressions.proofs.FormCauses.{prefixed_cause}
use Rattle.c0_types_expressions.proofs.terms.forms.unary.Goals as goal

pub returns-in_err-place-in-Dereference-clause-cause : goal.returns-in_err-place-in-Dereference-clause-cause
returns-in_err-place-in-Dereference-clause-cause c =
    let p = err_from_is_err_and c.from_residual.result c.from_residual.ensures.1 in
    rw (p.1, p.2, c.in-Dereference.is) (among c.in_err-place-in-Dereference.ensures.cause)

pub returns-in_ok-place-in-Dereference-clause-cause : goal.returns-in_ok-place-in-Dereference-clause-cause
returns-in_ok-place-in-Dereference-clause-cause c =
    let s = c.args.terms.now in
    let x = typing_of s.texts.now c.args.operand in
    let place = c.in_ok-place-in-Dereference in
    let P : PrefixOperator → Type 0 = λ op. IfErr c.read_of.result (λ f. (f.kind ≡ OutOfMemory) ⊎ PrefixedCause (env_of s) f op x c.args.here c.args.span) in
    subst P (sym c.in-Dereference.is)
    (causes c.read_of.result (λ f. (is_small (resolved_of place.place.resolved) ≡ false) × Told NotSmall c.args.span f) (λ f. PrefixedCause (env_of s) f Dereference x c.args.here c.args.span)
    (λ f h. inr (place_of s.texts.now place.place, place.ensures.answers, h.0, h.1)) c.read_of.ensures.cause)

pub returns-in_default : goal.returns-in_default
returns-in_default c =
    let s = c.args.terms.now in
    let x = typing_of s.texts.now c.args.operand in
    record {
      answers = c.prefixed.ensures.answers;
      cause =
          none_causes (typing_of s.texts.now) c.prefixed.result (prefixed (env_of s) c.args.operator x) (λ f. Told TypeMismatch c.args.here f) (λ f. PrefixedCause (env_of s) f c.args.operator x c.args.here c.args.span)
          (λ f none told. prefixed_cause (env_of s) f c.args.operator x c.args.here c.args.span c.in_default.not-Dereference none told) c.prefixed.ensures.answers c.prefixed.ensures.cause;
    }
