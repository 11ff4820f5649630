use Rattle.std.proofs.Common.{sym, ◌∙◌}
use Rattle.world_actors.proofs.BroughtIn.{claims_free, claims_held}
use Rattle.world_actors.proofs.program.ProgramActor.claim.Goals as goal

pub returns-then-is_free : goal.returns-then-is_free
returns-then-is_free g c z s p inside is =
    let old = c.args.lock.now in
    claims_free g.S.RawStore.content g.S.RawStore.honest z old.memory old.berths c.args.self.now s p is c.args.object c.args.frame c.hold_frame.new.self c.start.new.self c.is_new-is_new.result c.requires.mode inside
    (sym c.is_free.ensures ∙ c.if-is_free.true) (c.hold_frame.ensures z s) (c.is_new-is_new.ensures z.cells s.far is.shows.far) c.start.ensures.starts c.start.ensures.setting

pub returns-else-is_free : goal.returns-else-is_free
returns-else-is_free g c z s p inside is =
    let old = c.args.lock.now in
    claims_held g.S.RawStore.content g.S.RawStore.honest z old.memory old.berths c.args.self.now s p is c.args.object c.args.frame c.requires.mode (sym c.is_free.ensures ∙ c.if-is_free.false)
