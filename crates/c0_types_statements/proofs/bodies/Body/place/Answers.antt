use Rattle.c0_syntax.specs.Views.{expression_of_kind}
use Rattle.c0_rules.specs.Expressions.{typed_place}
use Rattle.c0_types_terms.specs.Terms.{place_of}
use Rattle.c0_rules.specs.Answers.{Answers}
use Rattle.c0_types_bodies.proofs.BodyRows.{along}
use Rattle.c0_types_statements.proofs.bodies.Body.place.Goals as goal

pub returns-clause-answers : goal.returns-clause-answers
returns-clause-answers c =
    let e = expression_of_kind c.args.kind.now in
    along (λ texts env at. Answers (place_of texts) c.place.result (typed_place env at e)) c.terms.ensures.texts c.terms.ensures.environment c.terms.ensures.context c.place.ensures.answers
