use Rattle.std.proofs.Common.{◌<◌, ◌≤◌, [], refl, ◌∙◌, subst}
use Rattle.world_fetchers.proofs.Bringing.{arrived, filled}
use Rattle.world_fetchers.proofs.fetch.clear_next.Goals as goal

pub returns-then-at-size : goal.returns-then-at-size
returns-then-at-size g c words m z s is =
    let old = c.args.lock.now in
    let now = c.fill.new.lock in
    filled g.S.RawStore.content g.S.RawStore.honest z old.memory old.berths m s c.args.object c.args.frame c.args.at 0 [] now.memory now.berths is (subst (λ n. c.args.at < n) (c.size.ensures ∙ is.shows.tables.size) c.if-at-size.true) refl (c.fill.ensures m z s (subst (λ n. c.args.at < n) (c.size.ensures ∙ is.shows.tables.size) c.if-at-size.true) is.inv is.fits.0.2 is.shows)

pub returns-else-at-size : goal.returns-else-at-size
returns-else-at-size g c words m z s is =
    let old = c.args.lock.now in
    let now = c.arrive.new.lock in
    arrived g.S.RawStore.content g.S.RawStore.honest z old.memory old.berths m s c.args.object c.args.frame c.args.at [] now.memory now.berths is (subst (λ n. n ≤ c.args.at) (c.size.ensures ∙ is.shows.tables.size) c.if-at-size.false) (c.arrive.ensures m z s is.inv is.fits.0.0 is.shows)
