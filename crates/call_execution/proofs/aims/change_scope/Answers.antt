use Rattle.call_execution.proofs.Stale.{put_in}
use Rattle.call_execution.proofs.aims.change_scope.Goals as goal

pub returns-clause-own : goal.returns-clause-own
returns-clause-own c = put_in c.args.scopes.now c.args.first c.args.number c.args.scope
