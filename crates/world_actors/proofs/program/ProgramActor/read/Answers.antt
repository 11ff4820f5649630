use Rattle.std.proofs.Common.{ap, ◌∙◌, true, false}
use Rattle.world_actors.specs.declared.program.Mode.TheVariants as m
use Rattle.world_memory.specs.Answered.{AnswersSo, Gets, reading}
use Rattle.world_actors.specs.Asking.{asked_in}
use Rattle.world_actors.specs.Seats.{Seat}
use Rattle.world_semantics.specs.Turns.{Answer}
use Rattle.world_actors.proofs.Answered.{asked_as}
use Rattle.world_actors.proofs.BroughtIn.{asked_as_mode, reads, reads_not, was_put}
use Rattle.world_actors.proofs.program.ProgramActor.read.Goals as goal

pub returns-then-get : goal.returns-then-get
returns-then-get g c z s p _ is =
    let old = c.args.lock.now in
    let x = c.args.self.now in
    let o = c.args.object in
    let f = c.args.frame in
    let words = c.get.new.self.words in
    let mode = m.Filling o f 0 in
    let told : Answer → Type 0 = AnswersSo g.S.RawStore.reliable g.S.RawStore.failures g.S.RawStore.read_gives z.cells old.berths.items c.args.port.now c.get.new.port s.far (asked_in z.cells p.mode) in
    let answered : told (reading true words) =
    asked_as g.S.RawStore.reliable g.S.RawStore.failures g.S.RawStore.read_gives z.cells old.berths.items c.args.port.now c.get.new.port s.far (reading true words) (Gets o) (asked_in z.cells p.mode)
    (asked_as_mode g.S.RawStore.content g.S.RawStore.honest z old.memory old.berths x s p is (m.Reading o f) c.requires.mode)
    (c.if-get.ensures.answered z.cells s.far is.shows.size is.size is.shows.far (was_put g.S.RawStore.content g.S.RawStore.honest z old.memory old.berths x s p is o f c.requires.mode)) in
    reads g.S.RawStore.content g.S.RawStore.honest z old.memory old.berths x s p is o f words c.set_mode.new.self told answered c.requires.mode
    (c.get.ensures.got c.if-get.true z.cells s.far is.size is.shows.far) (c.set_mode.ensures ∙ ap (λ (y : Seat). record y { mode = mode }) c.get.ensures.after)

pub returns-else-get : goal.returns-else-get
returns-else-get g c z s p _ is =
    let old = c.args.lock.now in
    let x = c.args.self.now in
    let o = c.args.object in
    let f = c.args.frame in
    let words = c.get.new.self.words in
    let mode = m.Releasing o f in
    let told : Answer → Type 0 = AnswersSo g.S.RawStore.reliable g.S.RawStore.failures g.S.RawStore.read_gives z.cells old.berths.items c.args.port.now c.get.new.port s.far (asked_in z.cells p.mode) in
    let answered : told (reading false words) =
    asked_as g.S.RawStore.reliable g.S.RawStore.failures g.S.RawStore.read_gives z.cells old.berths.items c.args.port.now c.get.new.port s.far (reading false words) (Gets o) (asked_in z.cells p.mode)
    (asked_as_mode g.S.RawStore.content g.S.RawStore.honest z old.memory old.berths x s p is (m.Reading o f) c.requires.mode)
    (c.if-get.ensures.answered z.cells s.far is.shows.size is.size is.shows.far (was_put g.S.RawStore.content g.S.RawStore.honest z old.memory old.berths x s p is o f c.requires.mode)) in
    reads_not g.S.RawStore.content g.S.RawStore.honest z old.memory old.berths x s p is o f words c.set_mode-else-get.new.self told answered
    (c.set_mode-else-get.ensures ∙ ap (λ (y : Seat). record y { mode = mode }) c.get.ensures.after)
