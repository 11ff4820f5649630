use Rattle.std.proofs.Common.{◌≡◌, ◌≤◌, ◌<◌, ◌+◌, ap, subst, ◌∙◌}
use Rattle.world_actors.specs.declared.program.Mode.TheVariants as m
use Rattle.cells.specs.declared.ending.Want.TheVariants.{OutOfMemory}
use Rattle.code_form.specs.Placed.{pieces}
use Rattle.world_actors.specs.Seats.{Seat}
use Rattle.world_actors.proofs.Instructed.{allocates_not, allocates_refused, allocates_so}
use Rattle.world_actors.proofs.program.ProgramActor.allocate.Goals as goal

pub returns-in-Ok : goal.returns-in-Ok
returns-in-Ok g c z s p is =
    let many : c.pieces.result ≡ pieces c.args.self.now.setting.size c.args.cells = c.pieces.ensures.value ∙ ap (λ n. pieces n c.args.cells) c.size.ensures.value in
    let old = c.args.lock.now in
    let room : c.next.result + c.pieces.result ≤ c.args.self.now.setting.limit = subst (λ n. c.next.result + c.pieces.result ≤ n) c.limit.ensures.value c.if-next-pieces.true in
    allocates_so g.S.RawStore.content g.S.RawStore.honest z old.memory old.berths c.args.self.now s p is c.next.result c.pieces.result c.args.cells c.extend.new.self c.next.ensures.value many room c.in-Ok.ensures

pub returns-in-Err : goal.returns-in-Err
returns-in-Err g c z s p is =
    let many : c.pieces.result ≡ pieces c.args.self.now.setting.size c.args.cells = c.pieces.ensures.value ∙ ap (λ n. pieces n c.args.cells) c.size.ensures.value in
    let old = c.args.lock.now in
    let room : c.next.result + c.pieces.result ≤ c.args.self.now.setting.limit = subst (λ n. c.next.result + c.pieces.result ≤ n) c.limit.ensures.value c.if-next-pieces.true in
    allocates_refused g.S.RawStore.content g.S.RawStore.honest z old.memory old.berths c.args.self.now s p is c.next.result c.pieces.result c.args.cells c.want_memory.new.self c.requires c.next.ensures.value many room
    (c.want_memory.ensures ∙ ap (λ (y : Seat). record y { mode = m.Wanted OutOfMemory }) c.in-Err.ensures)

pub returns-else-next-pieces : goal.returns-else-next-pieces
returns-else-next-pieces g c z s p is =
    let many : c.pieces.result ≡ pieces c.args.self.now.setting.size c.args.cells = c.pieces.ensures.value ∙ ap (λ n. pieces n c.args.cells) c.size.ensures.value in
    let old = c.args.lock.now in
    let room : c.args.self.now.setting.limit < c.next.result + c.pieces.result = subst (λ n. n < c.next.result + c.pieces.result) c.limit.ensures.value c.if-next-pieces.false in
    allocates_not g.S.RawStore.content g.S.RawStore.honest z old.memory old.berths c.args.self.now s p is c.next.result c.pieces.result c.args.cells c.set_mode.new.self c.next.ensures.value many room
    c.set_mode.ensures
