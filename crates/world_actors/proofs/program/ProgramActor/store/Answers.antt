use Rattle.world_semantics.specs.Programs.{hold_at}
use Rattle.world_actors.proofs.Instructed.{goes_turn, stores_first, stores_held}
use Rattle.world_actors.proofs.program.ProgramActor.store.Goals as goal

pub returns-then-hold : goal.returns-then-hold
returns-then-hold g c z s p is =
    let x = c.args.self.now in
    goes_turn z.cells s _ _ _ _ _ c.store_told.result (λ a. stores_held x.setting s p c.args.scope (hold_at x.holds c.args.scope) c.in-Some.hold c.args.object c.args.index c.args.value c.in-Some.ensures c.if-hold-object.true c.if-hold.true)
    (c.store_told.ensures z s p is)

pub returns-else-hold : goal.returns-else-hold
returns-else-hold g c z s p is =
    let x = c.args.self.now in
    goes_turn z.cells s _ _ _ _ _ c.begin_write.result (λ a. stores_first x.setting s p c.args.scope (hold_at x.holds c.args.scope) c.in-Some.hold c.args.object c.args.index c.args.value c.in-Some.ensures c.if-hold-object.true c.if-hold.false)
    (c.begin_write.ensures z s p is)
