use Rattle.std.proofs.Common.{◌≡◌, drop}
use Rattle.instruction_table.specs.Table.{name_among}
use Rattle.instruction_table.proofs.name.first_with.Given as goal

abbrev pub invariant-loop-name : goal.invariant-loop-name
invariant-loop-name l = name_among (drop l.name-index l.names) l.code ≡ name_among l.names l.code
