use Rattle.std.proofs.Common.{◌≡◌, ◌++◌, take, drop}
use Rattle.std.specs.Prelude.{map}
use Rattle.code_form.specs.Code.{written}
use Rattle.call_execution.specs.Aimed.{scope_of}
use Rattle.call_execution.proofs.aims.make_stale.Given as goal

abbrev pub invariant-loop-number : goal.invariant-loop-number
invariant-loop-number l =
    map scope_of l.scopes ≡ map (written l.register) (take l.number (map scope_of l.initial.scopes)) ++ drop l.number (map scope_of l.initial.scopes)
