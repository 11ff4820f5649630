use Rattle.c0_syntax.proofs.Indents.{further}
use Rattle.c0_syntax.proofs.render.push_line.Goals as goal

pub loop-turn-preserved : goal.loop-turn-preserved
loop-turn-preserved c = further _ _ _ c.args.level c.loop-turn._turn c.loop-turn-test.true c.in_ok-push_str-2.ensures.bytes c.loop-turn.invariant
