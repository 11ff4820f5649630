use Rattle.std.proofs.Common.{◌≡◌, sym, inl, inr}
use Rattle.std.specs.Prelude.{option_map}
use Rattle.std.proofs.lemmas.Result.{IfErr-weaker, err_from_is_err_and}
use Rattle.c0_syntax.specs.Views.{simple_of}
use Rattle.c0_types_tables.specs.Views.{environment_of}
use Rattle.c0_types_bodies.specs.Bodies.{scope_of}
use Rattle.c0_types_bodies.proofs.Kept.{second_more}
use Rattle.c0_types_bodies.proofs.LoopParts.{declares_none, third_answers, third_stays}
use Rattle.c0_types_statements.proofs.bodies.Body.third_part.Goals as goal

pub returns-in_err-check_third-clause-answers : goal.returns-in_err-check_third-clause-answers
returns-in_err-check_third-clause-answers c =
    let p = err_from_is_err_and c.from_residual.result c.from_residual.ensures.1 in
    rw (p.1, p.2) (inr (declares_none (environment_of c.args.self.now.environment.now) (option_map simple_of c.args.third.now) (scope_of c.args.self.now.scope) (sym c.in_err-check_third.ensures.answers)))

pub returns-in_err-check_third-clause-cause : goal.returns-in_err-check_third-clause-cause
returns-in_err-check_third-clause-cause c =
    let p = err_from_is_err_and c.from_residual.result c.from_residual.ensures.1 in
    rw (p.1, p.2) (inr (inl (c.in_err-check_third.ensures.cause (environment_of c.args.self.now.environment.now))))

pub returns-clause-scope : goal.returns-clause-scope
returns-clause-scope c =
    third_stays (environment_of c.args.self.now.environment.now) c.args.self.now.texts.now c.part.new.self.scope c.part.result (option_map simple_of c.args.third.now) (scope_of c.args.self.now.scope) (sym c.in_ok-check_third.ensures.answers) c.part.ensures.answers

pub returns-clause-answers : goal.returns-clause-answers
returns-clause-answers c =
    third_answers (environment_of c.args.self.now.environment.now) c.args.self.now.texts.now c.part.new.self.scope c.part.result (option_map simple_of c.args.third.now) (scope_of c.args.self.now.scope) (sym c.in_ok-check_third.ensures.answers) c.part.ensures.answers

pub returns-clause-cause : goal.returns-clause-cause
returns-clause-cause c = IfErr-weaker c.part.result _ _ (λ f h. second_more h) c.part.ensures.cause
