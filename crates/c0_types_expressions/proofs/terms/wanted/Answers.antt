use Rattle.std.proofs.lemmas.Result.{err_from_is_err_and}
use Rattle.c0_syntax.specs.Views.{expression_of}
use Rattle.c0_typed.specs.Views.{exp_of}
use Rattle.c0_rules.specs.Expressions.{as_wanted, typed_expression}
use Rattle.c0_types_tables.specs.Views.{resolved_of}
use Rattle.c0_types_terms.specs.Terms.{context_of, env_of, typing_of}
use Rattle.c0_types_expressions.proofs.FormAnswers.{then_answers}
use Rattle.c0_types_terms.proofs.Causes.{among}
use Rattle.c0_types_expressions.proofs.Refusals.{none_first}
use Rattle.c0_types_expressions.proofs.terms.wanted.Goals as goal

pub returns-in_err-typing-clause-answers : goal.returns-in_err-typing-clause-answers
returns-in_err-typing-clause-answers c =
    let s = c.args.terms.now in
    let p = err_from_is_err_and c.from_residual.result c.from_residual.ensures.1 in
    rw (p.1, p.2) (none_first (typed_expression (env_of s) (context_of s) (expression_of c.args.e.now)) (as_wanted (env_of s) (resolved_of c.args.want.now)) c.in_err-typing.ensures.answers)

pub returns-in_err-typing-clause-cause : goal.returns-in_err-typing-clause-cause
returns-in_err-typing-clause-cause c =
    let p = err_from_is_err_and c.from_residual.result c.from_residual.ensures.1 in
    rw (p.1, p.2) (among c.in_err-typing.ensures.cause)

pub returns-clause-answers : goal.returns-clause-answers
returns-clause-answers c =
    let s = c.args.terms.now in
    then_answers (exp_of s.texts.now) c.required.result (typed_expression (env_of s) (context_of s) (expression_of c.args.e.now)) (as_wanted (env_of s) (resolved_of c.args.want.now)) (typing_of s.texts.now c.in_ok-typing.typing) c.in_ok-typing.ensures.answers c.required.ensures.answers
