use Rattle.std.proofs.Common.{◌≡◌, refl}
use Rattle.world_actors.proofs.Acting.{goes_same, goes_with}
use Rattle.world_actors.specs.Acting.{Shows, UnreadSo, eviction_in}
use Rattle.world_memory.specs.Answered.{AnswersSo}
use Rattle.world_actors.specs.Asking.{asked_idly, asked_out}
use Rattle.world_actors.specs.Seats.{eviction_of}
use Rattle.world_semantics.specs.Turns.{evacuator_turn}
use Rattle.world_semantics.specs.declared.event.Step.TheVariants as step
use Rattle.world_actors.proofs.Evacuating.{told_all, told_idle, turn_idle, turn_on}
use Rattle.world_actors.proofs.evacuator.EvacuatorActor.turn.Goals as goal

pub returns-in-None-clause-goes : goal.returns-in-None-clause-goes
returns-in-None-clause-goes g c z s inside is =
    let p = c.args.port.now in
    goes_with z.cells s _ _ _ _ _ c.seek.result (λ a k. (k, told_idle g.S.RawStore.reliable g.S.RawStore.failures g.S.RawStore.read_gives z.cells c.args.lock.now.berths.items p s.far a c.args.self.now c.in-None.ensures))
    (turn_idle z.cells c.args.self.now s c.args.choice _ _ _ c.seek.result c.in-None.ensures (goes_same z.cells s _ _ _ _ _ c.seek.result (λ k. (k.0, refl, k.1)) (c.seek.ensures.goes z s inside is)))

pub returns-in-Next-clause-goes : goal.returns-in-Next-clause-goes
returns-in-Next-clause-goes g c z s inside is =
    let p = c.args.port.now in
    let q = c.go_on.new.port in
    let x = c.args.self.now in
    let e = c.in-Some.eviction in
    let berths = c.args.lock.now.berths in
    goes_with z.cells s (λ a. evacuator_turn z.cells x.mover (eviction_in x) c.args.choice a) (UnreadSo (AnswersSo g.S.RawStore.reliable g.S.RawStore.failures g.S.RawStore.read_gives z.cells berths.items p q s.far (asked_out z.cells (eviction_of e x.words.items))))
    (UnreadSo (AnswersSo g.S.RawStore.reliable g.S.RawStore.failures g.S.RawStore.read_gives z.cells berths.items p q s.far (asked_idly z.cells (eviction_in x))))
    (λ u d. Shows g.S.RawStore.content z c.go_on.new.lock.memory c.go_on.new.lock.berths u × (d ≡ eviction_in c.go_on.new.self)) (Unit {0}) step.Took
    (told_all g.S.RawStore.reliable g.S.RawStore.failures g.S.RawStore.read_gives z.cells berths.items p q s.far x e c.in-Some.ensures)
    (turn_on z.cells x s c.args.choice e _ _ c.in-Next.is c.in-Some.ensures (c.go_on.ensures.leads z s is))
