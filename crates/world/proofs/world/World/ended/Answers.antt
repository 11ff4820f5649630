use Rattle.std.proofs.lemmas.Result.{IfOk-weaker}
use Rattle.world.proofs.Happening.{at_index}
use Rattle.world.proofs.world.World.ended.Goals as goal

pub returns : goal.returns
returns g c =
    let x = c.index.result.now in
    let here = at_index c.args.self.now.programs.items c.args.program x c.requires c.index.ensures in
    IfOk-weaker c.end_of.result _ _ (λ e told z images w is. told (w.programs c.args.program) (is.programs c.args.program x here).0) c.end_of.ensures
