use Rattle.std.proofs.Common.{◌∙◌}
use Rattle.object_moves.proofs.Looking.{not_claimed}
use Rattle.object_moves.proofs.search.find_between.Goals as goal

pub loop-frame-preserved : goal.loop-frame-preserved
loop-frame-preserved g c = not_claimed c.loop-frame.frame c.loop-frame.mover c.try_frame.new.mover c.try_frame.result c.if-try_frame.false c.try_frame.ensures.told ∙ c.loop-frame.invariant
