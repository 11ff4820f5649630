use Rattle.std.proofs.Common.{IfErr, map}
use Rattle.std.specs.Prelude.{◌≡◌, ◌⊎◌}
use Rattle.c0_source.specs.declared.fault.FaultKind.TheVariants.{OutOfMemory}
use Rattle.c0_syntax.specs.Views.{spec_of}
use Rattle.c0_typed.specs.Views.{exps_of}
use Rattle.c0_rules.specs.FaultStatements.{InSpecs}
use Rattle.c0_rules.specs.Statements.{Assertion, conditions_of_all}
use Rattle.c0_rules.specs.Answers.{Answers}
use Rattle.c0_types_bodies.proofs.BodyRows.{along}
use Rattle.c0_types_statements.proofs.bodies.Body.assertions.Goals as goal

pub returns-clause-answers : goal.returns-clause-answers
returns-clause-answers c =
    let specs = map spec_of c.args.specs.now in
    along (λ texts env at. Answers (λ v. exps_of texts v.items) c.assertions.result (conditions_of_all env Assertion at specs)) c.terms.ensures.texts c.terms.ensures.environment c.terms.ensures.context c.assertions.ensures.answers

pub returns-clause-cause : goal.returns-clause-cause
returns-clause-cause c =
    let specs = c.args.specs.now in
    along (λ texts env at. IfErr c.assertions.result (λ f. (f.kind ≡ OutOfMemory) ⊎ InSpecs env f Assertion at specs)) c.terms.ensures.texts c.terms.ensures.environment c.terms.ensures.context c.assertions.ensures.cause
