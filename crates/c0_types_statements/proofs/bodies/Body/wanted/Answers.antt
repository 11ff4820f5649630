use Rattle.std.proofs.Common.{◌≡◌, IfErr}
use Rattle.std.specs.Prelude.{◌⊎◌}
use Rattle.c0_source.specs.declared.fault.FaultKind.TheVariants.{OutOfMemory}
use Rattle.c0_syntax.specs.Views.{expression_of}
use Rattle.c0_typed.specs.Views.{exp_of}
use Rattle.c0_rules.specs.Expressions.{wanted, typed_expression}
use Rattle.c0_rules.specs.FaultExpressions.{AsValue, InExpression, Mistyped}
use Rattle.c0_rules.specs.Answers.{Answers}
use Rattle.c0_types_tables.specs.Views.{resolved_of}
use Rattle.c0_types_bodies.proofs.BodyRows.{along}
use Rattle.c0_types_statements.proofs.bodies.Body.wanted.Goals as goal

pub returns-clause-answers : goal.returns-clause-answers
returns-clause-answers c =
    let e = expression_of c.args.e.now in
    let want = resolved_of c.args.want.now in
    along (λ texts env at. Answers (exp_of texts) c.wanted.result (wanted env want (typed_expression env at e))) c.terms.ensures.texts c.terms.ensures.environment c.terms.ensures.context c.wanted.ensures.answers

pub returns-clause-cause : goal.returns-clause-cause
returns-clause-cause c =
    let e = c.args.e.now in
    let want = resolved_of c.args.want.now in
    along (λ texts env at. IfErr c.wanted.result (λ f. (f.kind ≡ OutOfMemory) ⊎ InExpression env at f AsValue e.kind e.span ⊎ Mistyped env at f want e.kind e.span)) c.terms.ensures.texts c.terms.ensures.environment c.terms.ensures.context c.wanted.ensures.cause
