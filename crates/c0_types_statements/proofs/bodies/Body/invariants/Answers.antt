use Rattle.std.proofs.Common.{IfErr, map}
use Rattle.std.specs.Prelude.{◌≡◌, ◌⊎◌}
use Rattle.c0_source.specs.declared.fault.FaultKind.TheVariants.{OutOfMemory}
use Rattle.c0_syntax.specs.Views.{annotation_of}
use Rattle.c0_typed.specs.Views.{exps_of}
use Rattle.c0_rules.specs.FaultStatements.{InAnnotations}
use Rattle.c0_rules.specs.Mentions.{specs_in}
use Rattle.c0_rules.specs.Statements.{Invariant, conditions_of_all}
use Rattle.c0_rules.specs.Answers.{Answers}
use Rattle.c0_types_bodies.proofs.BodyRows.{along}
use Rattle.c0_types_statements.proofs.bodies.Body.invariants.Goals as goal

pub returns-clause-answers : goal.returns-clause-answers
returns-clause-answers c =
    let specs = specs_in (map annotation_of c.args.annotations.now) in
    along (λ texts env at. Answers (λ v. exps_of texts v.items) c.invariants.result (conditions_of_all env Invariant at specs)) c.terms.ensures.texts c.terms.ensures.environment c.terms.ensures.context c.invariants.ensures.answers

pub returns-clause-cause : goal.returns-clause-cause
returns-clause-cause c =
    let specs = c.args.annotations.now in
    along (λ texts env at. IfErr c.invariants.result (λ f. (f.kind ≡ OutOfMemory) ⊎ InAnnotations env f Invariant at specs)) c.terms.ensures.texts c.terms.ensures.environment c.terms.ensures.context c.invariants.ensures.cause
