use Rattle.std.proofs.Common.{◌<◌, ◌≤◌, subst}
use Rattle.world_fetchers.proofs.Bringing.{arrived, filled}
use Rattle.world_fetchers.proofs.fetch.fill_next.Goals as goal

pub returns-then-at-words : goal.returns-then-at-words
returns-then-at-words g c m z s l is =
    let old = c.args.lock.now in
    let now = c.fill.new.lock in
    filled g.S.RawStore.content g.S.RawStore.honest z old.memory old.berths m s c.args.object c.args.frame c.args.at c.word-value.result c.args.words.now now.memory now.berths is (subst (λ n. c.args.at < n) l c.if-at-words.true) c.word-value.ensures
    (c.fill.ensures m z s (subst (λ n. c.args.at < n) l c.if-at-words.true) is.inv is.fits.0.2 is.shows)

pub returns-else-at-words : goal.returns-else-at-words
returns-else-at-words g c m z s l is =
    let old = c.args.lock.now in
    let now = c.arrive.new.lock in
    arrived g.S.RawStore.content g.S.RawStore.honest z old.memory old.berths m s c.args.object c.args.frame c.args.at c.args.words.now now.memory now.berths is (subst (λ n. n ≤ c.args.at) l c.if-at-words.false)
    (c.arrive.ensures m z s is.inv is.fits.0.0 is.shows)
