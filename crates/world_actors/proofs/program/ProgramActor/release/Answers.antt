use Rattle.world_actors.proofs.BroughtIn.{releases}
use Rattle.world_actors.proofs.program.ProgramActor.release.Goals as goal

pub returns : goal.returns
returns g c z s p is =
    let old = c.args.lock.now in
    releases g.S.RawStore.content g.S.RawStore.honest z old.memory old.berths c.args.self.now s p is c.args.object c.args.frame c.hold_frame.new.self c.set_mode.new.self c.requires (c.hold_frame.ensures z s) c.set_mode.ensures
