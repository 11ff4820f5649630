use Rattle.std.proofs.Common.{◌≡◌, drop, map}
use Rattle.c0_syntax.specs.Views.{annotation_of}
use Rattle.c0_typed.specs.Views.{exps_of}
use Rattle.c0_types_bodies.specs.Bodies.{with_front}
use Rattle.c0_rules.specs.Mentions.{specs_in}
use Rattle.c0_rules.specs.Statements.{Invariant, conditions_of_all}
use Rattle.c0_types_terms.specs.Terms.{context_of, env_of}
use Rattle.c0_types_statements.proofs.bodies.conditions.invariants.Given as goal

-- the conditions so far, with those of the annotations that are left
abbrev pub invariant-loop-annotation : goal.invariant-loop-annotation
invariant-loop-annotation l =
    with_front (exps_of l.terms.texts.now l.conditions.items) (conditions_of_all (env_of l.terms) Invariant (context_of l.terms) (specs_in (map annotation_of (drop l.annotation-index l.annotations))))
    ≡ conditions_of_all (env_of l.terms) Invariant (context_of l.terms) (specs_in (map annotation_of l.annotations))
