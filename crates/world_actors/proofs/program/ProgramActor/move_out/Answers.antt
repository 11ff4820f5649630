use Rattle.std.proofs.Common.{◌≡◌, ap, ◌∙◌}
use Rattle.world_actors.specs.Acting.{outcome_of}
use Rattle.world_memory.specs.Answered.{AnswersSo}
use Rattle.world_actors.specs.Asking.{asked_in, asked_out}
use Rattle.world_actors.specs.Seats.{Seat, eviction_of}
use Rattle.world_actors.specs.declared.program.Mode.TheVariants as m
use Rattle.world_semantics.specs.Turns.{Answer}
use Rattle.world_actors.proofs.Acting.{leads_with}
use Rattle.world_actors.proofs.Answered.{asked_as}
use Rattle.world_actors.proofs.BroughtIn.{asked_as_mode, moves_on, moving}
use Rattle.world_actors.proofs.program.ProgramActor.move_out.Goals as goal

pub returns : goal.returns
returns g c z s p _ is =
    let h : Type 0 = g.S.RawStore.honest in
    let old = c.args.lock.now in
    let x = c.args.self.now in
    let o = c.args.object in
    let e = c.args.eviction in
    let now = c.evict.new.lock in
    let words = c.evict.new.self.words in
    let same : c.set_mode.new.self ≡ record x { words = words; mode = c.mode-mode.result } = c.set_mode.ensures ∙ ap (λ (y : Seat). record y { mode = c.mode-mode.result }) c.evict.ensures.after in
    let told : Answer → Type 0 = AnswersSo g.S.RawStore.reliable g.S.RawStore.failures g.S.RawStore.read_gives z.cells old.berths.items c.args.port.now c.evict.new.port s.far (asked_in z.cells p.mode) in
    moves_on g.S.RawStore.content h z old.memory old.berths x s p is o e (outcome_of c.evict.result words) now.memory now.berths words c.mode-mode.result c.set_mode.new.self told
    (leads_with z.cells s _ _ _ _ (λ a k. (
      k.0,
      asked_as g.S.RawStore.reliable g.S.RawStore.failures g.S.RawStore.read_gives z.cells old.berths.items c.args.port.now c.evict.new.port s.far a (asked_out z.cells (eviction_of e x.words)) (asked_in z.cells p.mode)
          (asked_as_mode g.S.RawStore.content h z old.memory old.berths x s p is (m.Evicting o e) c.requires.mode) k.1,
    ))
    (c.evict.ensures.leads z s is.size (moving g.S.RawStore.content h z old.memory old.berths x s p is o e c.requires.mode))) (c.mode-mode.ensures.mode words) same
