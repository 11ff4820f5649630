use Rattle.std.proofs.Common.{ap, ◌∙◌}
use Rattle.cells.specs.declared.ending.Want.TheVariants.{OutOfMemory}
use Rattle.world_actors.specs.declared.program.Mode.TheVariants as m
use Rattle.world_actors.specs.Seats.{Seat}
use Rattle.world_actors.proofs.Instructed.{goes_on, plain_refused}
use Rattle.world_actors.proofs.program.ProgramActor.go_plain.Goals as goal

pub returns-in-Ok : goal.returns-in-Ok
returns-in-Ok g c z s p is =
    let old = c.args.lock.now in
    goes_on g.S.RawStore.content g.S.RawStore.honest z old.memory old.berths c.args.self.now s p is c.proceed.new.self c.in-Ok.ensures

pub returns-in-Err : goal.returns-in-Err
returns-in-Err g c z s p is =
    let old = c.args.lock.now in
    plain_refused g.S.RawStore.content g.S.RawStore.honest z old.memory old.berths c.args.self.now s p is c.want_memory.new.self c.requires c.in-Err.ensures.1
    (c.want_memory.ensures ∙ ap (λ (y : Seat). record y { mode = m.Wanted OutOfMemory }) c.in-Err.ensures.0)
