use Rattle.std.proofs.Common.{arith}
use Rattle.lower_tables.proofs.Founds.{grows_by_one}
use Rattle.lower_tables.proofs.gathering.add_kind.Goals as goal

pub returns-then-len-structs-clause-numbered : goal.returns-then-len-structs-clause-numbered
returns-then-len-structs-clause-numbered c = omega (arith, c.if-len-structs.true, c.len.ensures, grows_by_one _ c.add.result c.add.new.self c.args.singles.now c.args.kind c.add.ensures)
