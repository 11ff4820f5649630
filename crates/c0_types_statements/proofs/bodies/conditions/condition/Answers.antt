use Rattle.std.proofs.Common.{◌≡◌, true, sym, subst, rules}
use Rattle.c0_typed.specs.Views.{exp_of}
use Rattle.c0_types_bodies.specs.Bodies.{role_by}
use Rattle.c0_rules.specs.Statements.{same_role}
use Rattle.c0_types_terms.specs.Terms.{context_of, env_of}
use Rattle.c0_rules.specs.Answers.{Answers}
use Rattle.c0_types_bodies.proofs.ConditionLists.{rule_is}
use Rattle.c0_types_statements.proofs.bodies.conditions.condition.Goals as goal

pub returns-clause-answers : goal.returns-clause-answers
returns-clause-answers c =
    let same : same_role (role_by c.args.role) (role_by c.args.spec.now.kind) ≡ true = search rules in
    let terms = c.args.terms.now in
    subst (Answers (exp_of terms.texts.now) c.sited.result) (sym (rule_is (env_of terms) (role_by c.args.role) (context_of terms) c.args.spec.now same)) c.sited.ensures.answers
