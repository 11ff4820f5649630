use Rattle.std.proofs.Common.{◌≡◌, drop, map}
use Rattle.c0_syntax.specs.Views.{spec_of}
use Rattle.c0_typed.specs.Views.{exps_of}
use Rattle.c0_types_bodies.specs.Bodies.{role_by, with_front}
use Rattle.c0_rules.specs.Statements.{conditions_of_all}
use Rattle.c0_types_terms.specs.Terms.{context_of, env_of}
use Rattle.c0_types_statements.proofs.bodies.conditions.push_conditions.Given as goal

-- the conditions so far, with those of the specs that are left
abbrev pub invariant-loop-spec : goal.invariant-loop-spec
invariant-loop-spec l =
    with_front (exps_of l.terms.texts.now l.conditions.items) (conditions_of_all (env_of l.terms) (role_by l.role) (context_of l.terms) (map spec_of (drop l.spec-index l.specs)))
    ≡ with_front (exps_of l.terms.texts.now l.fn.conditions.items) (conditions_of_all (env_of l.terms) (role_by l.role) (context_of l.terms) (map spec_of l.specs))
