use Rattle.std.proofs.Common.{None, Some}
use Rattle.world_actors.proofs.Instructed.{end_turn, goes_turn}
use Rattle.world_actors.proofs.program.ProgramActor.end.Goals as goal

pub returns-in-None : goal.returns-in-None
returns-in-None g c z s p is =
    let old = c.args.lock.now in
    goes_turn z.cells s _ _ _ _ _ c.go_on.result (λ a. end_turn g.S.RawStore.content g.S.RawStore.honest z old.memory old.berths c.args.self.now s p is None a c.in-None.ensures) (c.go_on.ensures z s p is)

pub returns-in-Some : goal.returns-in-Some
returns-in-Some g c z s p is =
    let old = c.args.lock.now in
    goes_turn z.cells s _ _ _ _ _ c.close_hold.result (λ a. end_turn g.S.RawStore.content g.S.RawStore.honest z old.memory old.berths c.args.self.now s p is (Some (c.in-Some.scope, c.in-Some.hold)) a c.in-Some.ensures)
    (c.close_hold.ensures z s p is)
