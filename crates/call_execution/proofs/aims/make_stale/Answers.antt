use Rattle.std.proofs.Common.{arith}
use Rattle.call_execution.proofs.Stale.{written_more}
use Rattle.call_execution.proofs.aims.make_stale.Goals as goal

pub loop-number-preserved : goal.loop-number-preserved
loop-number-preserved c =
    written_more c.args.register c.loop-number.scopes c.args.scopes.now c.loop-number.number c.go_stale.new.self _ (omega arith) (omega arith) c.loop-number.invariant c.go_stale.ensures
