use Rattle.std.proofs.Common.{sym, ◌∙◌}
use Rattle.world_fetchers.proofs.Bringing.{claimed, not_claimed}
use Rattle.world_fetchers.proofs.fetch.claim.Goals as goal

pub returns-then-is_free : goal.returns-then-is_free
returns-then-is_free g c m z s inside none shows =
    let old = c.args.lock.now in
    claimed g.S.RawStore.content z old.memory old.berths m s shows c.args.object c.args.frame c.hold_frame.new.self inside (sym c.is_free.ensures ∙ c.if-is_free.true) (c.hold_frame.ensures z s)

pub returns-else-is_free : goal.returns-else-is_free
returns-else-is_free g c m z s inside none shows =
    let old = c.args.lock.now in
    not_claimed g.S.RawStore.content z old.memory old.berths m s shows c.args.object c.args.frame none (sym c.is_free.ensures ∙ c.if-is_free.false)
