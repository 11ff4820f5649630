use Rattle.std.proofs.Common.{true, false, [], ap, refl}
use Rattle.world_semantics.specs.Programs.{Copying, Evicting}
use Rattle.world_actors.specs.Seats.{Seat}
use Rattle.world_actors.proofs.BroughtIn.{marks_other, only, program_mode}
use Rattle.world_actors.proofs.program.ProgramActor.mark_other.Goals as goal

pub returns-then-mark : goal.returns-then-mark
returns-then-mark g c z s p inside is =
    let h : Type 0 = g.S.RawStore.honest in
    let old = c.args.lock.now in
    let x = c.args.self.now in
    let now = c.mark.new.lock in
    let none = (only g.S.RawStore.content h z old.memory old.berths x s p is c.args.object c.requires.mode).1 in
    marks_other g.S.RawStore.content h z old.memory old.berths x s p is c.args.object c.args.other c.args.frame now.memory now.berths c.set_mode.new.self true c.requires.mode
    (rw (← c.mover-mover.ensures) (c.if-mark.ensures.marks z s inside (rw c.mover-mover.ensures none) is.shows))
    (program_mode x c.set_mode.new.self p _ (Evicting c.args.object (Copying c.args.other c.args.frame [])) is.program c.set_mode.ensures refl) (ap (λ (k : Seat). k.setting) c.set_mode.ensures)

pub returns-else-mark : goal.returns-else-mark
returns-else-mark g c z s p inside is =
    let h : Type 0 = g.S.RawStore.honest in
    let old = c.args.lock.now in
    let x = c.args.self.now in
    let now = c.mark.new.lock in
    let none = (only g.S.RawStore.content h z old.memory old.berths x s p is c.args.object c.requires.mode).1 in
    marks_other g.S.RawStore.content h z old.memory old.berths x s p is c.args.object c.args.other c.args.frame now.memory now.berths x false c.requires.mode
    (rw (← c.mover-mover.ensures) (c.if-mark.ensures.marks z s inside (rw c.mover-mover.ensures none) is.shows)) is.program refl
