use Rattle.std.proofs.Common.{ℕ, drop}
use Rattle.std.specs.Prelude.{All}
use Rattle.code_form.specs.Known.{facts_known}
use Rattle.scope_verifier.specs.Shown.{FactHasPlace, IsReady, Shows}
use Rattle.scope_verifier.proofs.knowledge.Knowledge.enter.Given as goal

abbrev pub invariant-loop-index : goal.invariant-loop-index
invariant-loop-index l = (R S : ℕ) → IsReady R S l.fn.self → All (FactHasPlace R S) l.facts → Shows R S l.self (facts_known (drop l.index l.facts))
