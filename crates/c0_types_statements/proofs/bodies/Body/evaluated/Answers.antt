use Rattle.c0_syntax.specs.Views.{expression_of}
use Rattle.c0_typed.specs.Views.{exp_of}
use Rattle.c0_rules.specs.Expressions.{typed_expression}
use Rattle.c0_rules.specs.Statements.{evaluated}
use Rattle.c0_rules.specs.Types.{and_so}
use Rattle.c0_rules.specs.Answers.{Answers}
use Rattle.c0_types_bodies.proofs.BodyRows.{along}
use Rattle.c0_types_statements.proofs.bodies.Body.evaluated.Goals as goal

pub returns-clause-answers : goal.returns-clause-answers
returns-clause-answers c =
    let e = expression_of c.args.e.now in
    along (λ texts env at. Answers (exp_of texts) c.evaluated.result (and_so (typed_expression env at e) (evaluated env e))) c.terms.ensures.texts c.terms.ensures.environment c.terms.ensures.context c.evaluated.ensures.answers
