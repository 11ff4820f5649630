use Rattle.world_actors.proofs.Instructed.{completed}
use Rattle.world_actors.proofs.program.ProgramActor.complete.Goals as goal

pub returns : goal.returns
returns g c z s p is =
    let old = c.args.lock.now in
    completed g.S.RawStore.content g.S.RawStore.honest z old.memory old.berths c.args.self.now s p is c.finish.new.self c.finish.ensures
