use Rattle.world_memory.specs.Answered.{AnswersSo, Gets}
use Rattle.world_fetchers.proofs.Bringing.{got, not_got}
use Rattle.world_fetchers.proofs.fetch.read.Goals as goal

pub returns-then-get : goal.returns-then-get
returns-then-get g c m z s l is =
    let lock = c.args.lock.now in
    got g.S.RawStore.content g.S.RawStore.honest z lock.memory lock.berths m s c.args.object c.args.frame c.get.new.words
    (AnswersSo g.S.RawStore.reliable g.S.RawStore.failures g.S.RawStore.read_gives z.cells lock.berths.items c.args.port.now c.get.new.port s.far (Gets c.args.object)) is
    (c.if-get.ensures.answered z.cells s.far is.shows.size l is.shows.far is.fits.1) (c.get.ensures.got c.if-get.true z.cells s.far l is.shows.far)

pub returns-else-get : goal.returns-else-get
returns-else-get g c m z s l is =
    let lock = c.args.lock.now in
    not_got g.S.RawStore.content g.S.RawStore.honest z lock.memory lock.berths m s c.args.object c.args.frame c.get.new.words
    (AnswersSo g.S.RawStore.reliable g.S.RawStore.failures g.S.RawStore.read_gives z.cells lock.berths.items c.args.port.now c.get.new.port s.far (Gets c.args.object)) is
    (c.if-get.ensures.answered z.cells s.far is.shows.size l is.shows.far is.fits.1)
