use Rattle.call_execution.proofs.Growth.{printing}
use Rattle.call_execution.proofs.call.Call.command.Goals as goal

pub returns-clause-growth : goal.returns-clause-growth
returns-clause-growth c = λ r. printing _ _ _ _ c.args.operation.now c.command.result c.command.ensures r
