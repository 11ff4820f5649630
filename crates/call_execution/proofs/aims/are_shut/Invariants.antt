use Rattle.std.proofs.Common.{◌≡◌, drop}
use Rattle.std.specs.Prelude.{map}
use Rattle.code_form.specs.Code.{all_shut}
use Rattle.call_execution.specs.Aimed.{scope_of}
use Rattle.call_execution.proofs.aims.are_shut.Given as goal

abbrev pub invariant-loop-scope : goal.invariant-loop-scope
invariant-loop-scope l = all_shut (map scope_of l.scopes) ≡ all_shut (map scope_of (drop l.scope-index l.scopes))
