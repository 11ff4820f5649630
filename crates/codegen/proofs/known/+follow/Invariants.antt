use Rattle.std.proofs.Common.{◌≡◌, ◌++◌, drop, map}
use Rattle.middle_form.specs.Discipline.{after}
use Rattle.middle_form.specs.ScopedViews.{scoped_code_of, scoped_sequence_of}
use Rattle.codegen.specs.Building.{known_back, knows_of}
use Rattle.codegen.proofs.known.+follow.Given as goal

abbrev pub invariant-loop-part : goal.invariant-loop-part
invariant-loop-part l =
    (after (scoped_sequence_of (drop l.part-index l.part-items)) (λ _. knows_of l.knows) l.scope ≡ after (scoped_code_of l.code) (λ _. knows_of l.fn.before) l.scope)
    × (map knows_of l.known.items ++ known_back l.scope (scoped_sequence_of (drop l.part-index l.part-items)) (knows_of l.knows) ≡ map knows_of l.fn.known.items ++ known_back l.scope (scoped_code_of l.code) (knows_of l.fn.before))
