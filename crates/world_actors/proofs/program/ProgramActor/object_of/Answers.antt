use Rattle.std.proofs.Common.{◌≡◌, ◌/◌, ◌+◌, ◌<◌, sym, subst, arith}
use Rattle.code_form.specs.Code.{allocations_of, cells_of, sizes}
use Rattle.code_form.specs.Placed.{object_at}
use Rattle.world_actors.specs.Seats.{Seat}
use Rattle.world_actors.proofs.Placing.{in_firsts, located}
use Rattle.world_actors.proofs.program.ProgramActor.object_of.Goals as goal

pub overflow_sub-cell : goal.overflow_sub-cell
overflow_sub-cell c =
    let i = c.self.inside in
    let cells = sizes (allocations_of i.execution.core) in
    let within : c.args.cell.index < cells_of cells c.args.cell.reference = subst (λ (x : Seat). c.args.cell.index < cells_of (sizes (allocations_of x.core)) c.args.cell.reference) (sym c.self.view_is) c.requires in
    (in_firsts i.size i.base i.limit cells i.firsts.items i.next c.args.cell.reference c.args.cell.index c.self.invariant.placed c.self.invariant.room within (c.heap_laws.ensures.addresses i.size i.base cells (omega arith))).0

pub index-first-requires : goal.index-first-requires
index-first-requires c =
    let i = c.self.inside in
    let cells = sizes (allocations_of i.execution.core) in
    let within : c.args.cell.index < cells_of cells c.args.cell.reference = subst (λ (x : Seat). c.args.cell.index < cells_of (sizes (allocations_of x.core)) c.args.cell.reference) (sym c.self.view_is) c.requires in
    let h = in_firsts i.size i.base i.limit cells i.firsts.items i.next c.args.cell.reference c.args.cell.index c.self.invariant.placed c.self.invariant.room within (c.heap_laws.ensures.addresses i.size i.base cells (omega arith)) in
    let inside = h.1 in
    let size = i.firsts.ok.0 in
    omega arith

pub overflow_add-result : goal.overflow_add-result
overflow_add-result c =
    let i = c.self.inside in
    let cells = sizes (allocations_of i.execution.core) in
    let within : c.args.cell.index < cells_of cells c.args.cell.reference = subst (λ (x : Seat). c.args.cell.index < cells_of (sizes (allocations_of x.core)) c.args.cell.reference) (sym c.self.view_is) c.requires in
    let h = located i.size i.base i.limit cells i.firsts.items i.next c.args.cell.reference c.args.cell.index c.index-first.result.now c.self.invariant.placed c.self.invariant.room within (c.heap_laws.ensures.addresses i.size i.base cells (omega arith)) c.index-first.ensures in
    let own = h.1 in
    let small = c.self.invariant.small in
    omega arith

pub returns-clause-value : goal.returns-clause-value
returns-clause-value c =
    let i = c.self.inside in
    let cells = sizes (allocations_of i.execution.core) in
    let within : c.args.cell.index < cells_of cells c.args.cell.reference = subst (λ (x : Seat). c.args.cell.index < cells_of (sizes (allocations_of x.core)) c.args.cell.reference) (sym c.self.view_is) c.requires in
    let h = located i.size i.base i.limit cells i.firsts.items i.next c.args.cell.reference c.args.cell.index c.index-first.result.now c.self.invariant.placed c.self.invariant.room within (c.heap_laws.ensures.addresses i.size i.base cells (omega arith)) c.index-first.ensures in
    subst (λ (x : Seat). c.index-first.result.now + c.args.cell.index / i.size ≡ object_at x.setting.size x.setting.base (sizes (allocations_of x.core)) c.args.cell.reference c.args.cell.index) c.self.view_is h.0

pub returns-clause-own : goal.returns-clause-own
returns-clause-own c =
    let i = c.self.inside in
    let cells = sizes (allocations_of i.execution.core) in
    let within : c.args.cell.index < cells_of cells c.args.cell.reference = subst (λ (x : Seat). c.args.cell.index < cells_of (sizes (allocations_of x.core)) c.args.cell.reference) (sym c.self.view_is) c.requires in
    let h = located i.size i.base i.limit cells i.firsts.items i.next c.args.cell.reference c.args.cell.index c.index-first.result.now c.self.invariant.placed c.self.invariant.room within (c.heap_laws.ensures.addresses i.size i.base cells (omega arith)) c.index-first.ensures in
    subst (λ (x : Seat). c.index-first.result.now + c.args.cell.index / i.size < x.setting.limit) c.self.view_is h.1
