use Rattle.world_semantics.specs.Programs.{hold_at}
use Rattle.world_actors.proofs.Instructed.{goes_turn, loads_held}
use Rattle.world_actors.proofs.program.ProgramActor.load.Goals as goal

pub returns-then-hold-object : goal.returns-then-hold-object
returns-then-hold-object g c z s p is =
    let x = c.args.self.now in
    goes_turn z.cells s _ _ _ _ _ c.load_told.result (λ a. loads_held x.setting s p (hold_at x.holds c.args.scope) c.in-Some.hold c.args.object c.args.index c.in-Some.ensures c.if-hold-object.true) (c.load_told.ensures z s p is)
