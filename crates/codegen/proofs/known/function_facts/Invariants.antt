use Rattle.std.proofs.Common.{◌≡◌}
use Rattle.middle_form.specs.ScopedViews.{scoped_function_of}
use Rattle.codegen.specs.Building.{lists}
use Rattle.codegen.specs.Generated.{asked_of, entry_facts, known_of}
use Rattle.codegen.proofs.known.function_facts.Given as goal

abbrev pub invariant-loop-scope : goal.invariant-loop-scope
invariant-loop-scope l = lists l.facts.items ≡ entry_facts l.scope (known_of (scoped_function_of l.function)) (asked_of (scoped_function_of l.function))
