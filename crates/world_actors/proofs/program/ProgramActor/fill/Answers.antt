use Rattle.std.proofs.Common.{◌<◌, subst}
use Rattle.world_actors.proofs.BroughtIn.{fills_one}
use Rattle.world_actors.proofs.program.ProgramActor.fill.Goals as goal

pub returns : goal.returns
returns g c words mode value next z s p is =
    let old = c.args.lock.now in
    fills_one g.S.RawStore.content g.S.RawStore.honest z old.memory old.berths c.args.self.now s p is c.args.object c.args.frame c.args.index c.args.value words c.args.next c.put_cell.new.self c.set_mode.new.self mode value next
    (λ shown inside. c.put_cell.ensures z s shown inside (subst (λ n. c.args.index < n) is.size c.requires.index)) c.set_mode.ensures
