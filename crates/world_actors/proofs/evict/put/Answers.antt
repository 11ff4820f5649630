use Rattle.std.proofs.Common.{true, false}
use Rattle.world_memory.specs.Answered.{AnswersSo, Puts}
use Rattle.world_semantics.specs.Turns.{Answer}
use Rattle.world_actors.proofs.MovedOut.{put_out}
use Rattle.world_actors.proofs.evict.put.Goals as goal

pub returns-then-put : goal.returns-then-put
returns-then-put g c m z s l is =
    let h : Type 0 = g.S.RawStore.honest in
    let old = c.args.lock.now in
    let o = c.args.object in
    let f = c.args.frame in
    let words = c.args.words.now in
    let now = c.put.new.self in
    let told : Answer → Type 0 = AnswersSo g.S.RawStore.reliable g.S.RawStore.failures g.S.RawStore.read_gives z.cells old.berths.items c.args.port.now c.put.new.port s.far (Puts o) in
    put_out g.S.RawStore.content h z old.memory old.berths m s o f c.args.copied words true told now is l c.requires (c.if-put.ensures.answered z.cells s.far is.shows.size l) (c.if-put.ensures.far z.cells s.far is.shows.size l is.shows.far) c.put.ensures.many c.put.ensures.cells

pub returns-else-put : goal.returns-else-put
returns-else-put g c m z s l is =
    let h : Type 0 = g.S.RawStore.honest in
    let old = c.args.lock.now in
    let o = c.args.object in
    let f = c.args.frame in
    let words = c.args.words.now in
    let now = c.put.new.self in
    let told : Answer → Type 0 = AnswersSo g.S.RawStore.reliable g.S.RawStore.failures g.S.RawStore.read_gives z.cells old.berths.items c.args.port.now c.put.new.port s.far (Puts o) in
    put_out g.S.RawStore.content h z old.memory old.berths m s o f c.args.copied words false told now is l c.requires (c.if-put.ensures.answered z.cells s.far is.shows.size l) (c.if-put.ensures.far z.cells s.far is.shows.size l is.shows.far) c.put.ensures.many c.put.ensures.cells
