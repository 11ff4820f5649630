use Rattle.std.proofs.Common.{◌%◌, ap}
use Rattle.world_actors.proofs.Instructed.{goes_turn, load_turn}
use Rattle.world_actors.proofs.program.ProgramActor.load_cell.Goals as goal

pub returns : goal.returns
returns g c z s p is =
    let old = c.args.lock.now in
    goes_turn z.cells s _ _ _ _ _ c.load.result (λ a. load_turn g.S.RawStore.content g.S.RawStore.honest z old.memory old.berths c.args.self.now s p is c.args.scope c.args.cell c.object_of-object.result (c.args.cell.index % c.size.result) a c.object_of-object.ensures.value (ap (λ n. c.args.cell.index % n) c.size.ensures.value))
    (c.load.ensures z s p is)
