use Rattle.std.proofs.Common.{◌<◌, length, subst}
use Rattle.world_actors.proofs.Instructed.{aim_turn, goes_turn}
use Rattle.world_actors.proofs.program.ProgramActor.aim.Goals as goal

pub returns-then-scope-scopes : goal.returns-then-scope-scopes
returns-then-scope-scopes g c z s p is =
    let old = c.args.lock.now in
    let below : c.args.scope < length c.args.self.now.holds = subst (λ n. c.args.scope < n) c.scopes.ensures c.if-scope-scopes.true in
    goes_turn z.cells s _ _ _ _ _ c.aim_at.result (λ a. aim_turn g.S.RawStore.content g.S.RawStore.honest z old.memory old.berths c.args.self.now s p is c.args.scope c.args.wanted c.object_wanted-object.result a below c.object_wanted-object.ensures.value)
    (c.aim_at.ensures z s p is)
