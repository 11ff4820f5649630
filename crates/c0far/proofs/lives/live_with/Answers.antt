use Rattle.streams.specs.Streams.{writes}
use Rattle.c0far.proofs.Lived.{less_told}
use Rattle.c0far.proofs.lives.live_with.Goals as goal

pub returns-clause-broken : goal.returns-clause-broken
returns-clause-broken g c = less_told c.args.asked c.args.programs.items (writes g.O.Stream.contents g.O.Stream.failures c.args.out.now c.run_live_counted.new.out) c.run_live_counted.result c.run_live_counted.ensures.left
