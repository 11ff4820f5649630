use Rattle.std.proofs.Common.{inl}
use Rattle.std.proofs.lemmas.Result.{IfErr-weaker, err_from_is_err_and}
use Rattle.c0_syntax.specs.Views.{expression_of}
use Rattle.c0_typed.specs.Views.{exp_of}
use Rattle.c0_types_terms.specs.Terms.{context_of, env_of, typing_of}
use Rattle.c0_types_expressions.proofs.Evaluations.{none_discarded, value_discarded, value_told}
use Rattle.c0_types_expressions.proofs.terms.evaluated_value.Goals as goal

pub returns-in_err-typing : goal.returns-in_err-typing
returns-in_err-typing c =
    let s = c.args.terms.now in
    let e = c.args.e.now in
    let p = err_from_is_err_and c.from_residual.result c.from_residual.ensures.1 in
    let refused = c.in_err-typing.ensures in
    record {
      answers = rw (p.1, p.2) (none_discarded (env_of s) (context_of s) (expression_of e) c.requires.value refused.answers);
      cause = λ scope same. rw (p.1, p.2) (value_told (env_of s) c.in_err-typing.field-0.0 scope (context_of s) e.kind e.span same c.requires.value refused.cause);
    }

pub returns : goal.returns
returns c =
    let s = c.args.terms.now in
    let found = c.in_ok-typing in
    let r = c.discarded in
    record {
      answers = value_discarded (env_of s) (context_of s) (exp_of s.texts.now) r.result (expression_of c.args.e.now) (typing_of s.texts.now found.typing) found.ensures.answers r.ensures.answers;
      cause = λ scope same. IfErr-weaker r.result _ _ (λ f h. inl h) r.ensures.cause;
    }
