use Rattle.std.proofs.Common.{ap, subst, refl, ◌∙◌}
use Rattle.std.proofs.lemmas.Result.{err_from_is_err_and}
use Rattle.c0_syntax.specs.Trees.{Call}
use Rattle.c0_syntax.specs.Views.{expression_of_kind, expressions_of, name_of}
use Rattle.c0_typed.specs.Views.{exp_of}
use Rattle.c0_rules.specs.Expressions.{typed_expression}
use Rattle.c0_rules.specs.Statements.{evaluated}
use Rattle.c0_types_terms.specs.Terms.{HasTexts, context_of, env_of, typing_of}
use Rattle.c0_types_expressions.proofs.ArgumentLists.{call_is}
use Rattle.c0_types_expressions.proofs.Evaluations.{call_discarded, call_evaluated_told}
use Rattle.c0_types_expressions.proofs.Refusals.{none_first}
use Rattle.c0_types_expressions.proofs.terms.evaluated.Goals as goal

pub called-requires : goal.called-requires
called-requires c =
    let x = c.in-Call in
    let shape = ap expression_of_kind x.is ∙ call_is x.name x.arguments in
    record { texts = subst (HasTexts c.args.terms.now.texts.now) shape c.requires }

pub returns-in_err-typing-in-Call-clause-answers : goal.returns-in_err-typing-in-Call-clause-answers
returns-in_err-typing-in-Call-clause-answers c =
    let s = c.args.terms.now in
    let x = c.in-Call in
    let call = Call (name_of x.name) (expressions_of x.arguments.items) in
    let shape = ap expression_of_kind x.is ∙ call_is x.name x.arguments in
    let p = err_from_is_err_and c.from_residual.result c.from_residual.ensures.1 in
    rw (p.1, p.2, shape) (none_first (typed_expression (env_of s) (context_of s) call) (evaluated (env_of s) call) c.in_err-typing-in-Call.ensures.answers)

pub returns-in_err-typing-in-Call-clause-cause : goal.returns-in_err-typing-in-Call-clause-cause
returns-in_err-typing-in-Call-clause-cause c =
    let s = c.args.terms.now in
    let x = c.in-Call in
    let p = err_from_is_err_and c.from_residual.result c.from_residual.ensures.1 in
    λ scope same. rw (p.1, p.2, x.is) (call_evaluated_told (env_of s) c.in_err-typing-in-Call.field-0.0 scope (context_of s) x.name x.arguments c.args.e.now.span same c.in_err-typing-in-Call.ensures.cause)

pub returns-in_ok-typing-in-Call-clause-answers : goal.returns-in_ok-typing-in-Call-clause-answers
returns-in_ok-typing-in-Call-clause-answers c =
    let s = c.args.terms.now in
    let x = c.in-Call in
    let call = Call (name_of x.name) (expressions_of x.arguments.items) in
    let shape = ap expression_of_kind x.is ∙ call_is x.name x.arguments in
    rw shape (call_discarded (env_of s) (context_of s) (exp_of s.texts.now) c.discarded.result call (typing_of s.texts.now c.in_ok-typing-in-Call.typing) refl c.in_ok-typing-in-Call.ensures.answers c.discarded.ensures.answers)
