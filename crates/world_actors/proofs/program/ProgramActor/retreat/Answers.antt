use Rattle.world_actors.proofs.BroughtIn.{retreats}
use Rattle.world_actors.proofs.program.ProgramActor.retreat.Goals as goal

pub returns : goal.returns
returns g c z s p is =
    let old = c.args.lock.now in
    retreats g.S.RawStore.content g.S.RawStore.honest z old.memory old.berths c.args.self.now s p is c.args.object c.put_place.new.self c.set_mode.new.self c.requires (c.put_place.ensures z s) c.set_mode.ensures
