use Rattle.call_execution.proofs.Stale.{put_in}
use Rattle.call_execution.proofs.aims.put_scope.Goals as goal

pub returns-then-number-scopes-clause-own : goal.returns-then-number-scopes-clause-own
returns-then-number-scopes-clause-own c = put_in c.args.scopes.now c.args.first c.args.number c.args.scope
