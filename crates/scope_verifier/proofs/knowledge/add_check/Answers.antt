use Rattle.std.proofs.Common.{arith}
use Rattle.scope_verifier.proofs.Lists.{checks_set}
use Rattle.scope_verifier.proofs.knowledge.add_check.Goals as goal

pub returns-in_ok-renew : goal.returns-in_ok-renew
returns-in_ok-renew c = checks_set c.args.lists.now.items c.args.offset c.index_mut.result.now c.renew.new.list c.args.check c.args.since c.args.written (omega arith) c.index_mut.ensures.value c.in_ok-renew.ensures
