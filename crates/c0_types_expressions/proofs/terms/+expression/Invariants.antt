use Rattle.std.proofs.Common.{◌≡◌, drop, map}
use Rattle.c0_syntax.specs.Views.{expressions_of}
use Rattle.c0_typed.specs.Views.{exps_of}
use Rattle.c0_rules.specs.Expressions.{typed_arguments}
use Rattle.c0_types_tables.specs.Views.{resolved_of}
use Rattle.c0_types_terms.specs.Terms.{context_of, env_of}
use Rattle.c0_types_expressions.proofs.ArgumentLists.{rest_of, with_front}
use Rattle.c0_types_expressions.proofs.terms.+expression.Given as goal

-- the arguments so far, with those that are left
abbrev pub invariant-arguments_wanted-loop-i : goal.invariant-arguments_wanted-loop-i
invariant-arguments_wanted-loop-i l =
    with_front (exps_of l.terms.texts.now l.typed.items) (rest_of (env_of l.terms) (context_of l.terms) (drop l.i l.arguments) (drop l.i l.wants))
    ≡ typed_arguments (env_of l.terms) (context_of l.terms) (expressions_of l.arguments) (map resolved_of l.wants)
