use Rattle.std.proofs.Common.{rules, arith, ◌≡◌, ◌∙◌, ◌+◌, ◌<◌, ◌≤◌, ℕ, List, IfOk, ap, length, map, subst, sym}
use Rattle.std.specs.List.{All}
use Rattle.std.specs.Vec.{vec_capacity}
use Rattle.object_lock.specs.Fresh.{AreNumbered}
use Rattle.task_queue.specs.declared.rule.Roster.{Roster}
use Rattle.executor.specs.Ends.{AreFinished}
use Rattle.object_lock.specs.Joining.{AreTogether, seated_as}
use Rattle.object_lock.specs.Kept.{slot_has, slot_keeps}
use Rattle.object_lock.specs.SeatViews.{IsSeat, TableView}
use Rattle.executor.specs.Given.{AreGivenBack, AreMovers}
use Rattle.executor.specs.declared.movers.Mover.{Mover}
use Rattle.executor.proofs.Composed.{all_same, finished, same_rows}
use Rattle.executor.proofs.Together.{seats_are, some_seats, together, without_berths}
use Rattle.executor.proofs.all.run_region.Goals as goal

pub no_ends-requires-after_bounds : goal.no_ends-requires-after_bounds
no_ends-requires-after_bounds g c κs within = c.programs-count.ensures.programs ∙ sym (ap (λ (r : Roster). length r.programs) c.in_ok-queue.ensures.queue)

pub start_workers-requires-clause-room : goal.start_workers-requires-clause-room
start_workers-requires-clause-room g c κs within =
    let many = c.programs-count.ensures.programs ∙ sym (ap (λ (r : Roster). length r.programs) c.in_ok-queue.ensures.queue) in
    omega arith

pub start_movers-requires-clause-enough : goal.start_movers-requires-clause-enough
start_movers-requires-clause-enough g c κs within =
    let left = c.in_ok-tasks.ensures.left in
    let passes = c.in-Ok.ensures.passes.0 in
    let enough = c.requires.enough in
    omega arith

pub start_movers-requires-clause-hints : goal.start_movers-requires-clause-hints
start_movers-requires-clause-hints g c κs within = c.in-Ok.ensures.objects

pub file_all-requires-clause-workers : goal.file_all-requires-clause-workers
file_all-requires-clause-workers g c κs within = all_same c.in_ok-queue.queue c.in_ok-workers.workers.items c.run_beside-movers.result.1.items c.run_beside-movers.ensures.workers c.in_ok-workers.ensures

pub all_ends-requires-clause-room : goal.all_ends-requires-clause-room
all_ends-requires-clause-room g c κs within =
    let many = c.programs-count.ensures.programs ∙ sym (ap (λ (r : Roster). length r.programs) c.in_ok-queue.ensures.queue) in
    let filed = c.file_all.ensures.count in
    let room = c.in_ok-ends.ensures.capacity in
    omega arith

pub returns-clause-ends : goal.returns-clause-ends
returns-clause-ends g c =
    subst (λ (r : Roster). AreFinished g.S.RawStore.honest g.S.RawStore.reliable r.objects r.programs c.in_ok-programs.programs.items) c.in_ok-queue.ensures.queue (finished g.S.RawStore.honest g.S.RawStore.reliable _ _ _ _ c.in_ok-programs.ensures)

pub start_movers-requires-clause-numbers : goal.start_movers-requires-clause-numbers
start_movers-requires-clause-numbers g c κs within =
    let count : length c.args.region.now.programs + 1 ≡ c.programs-count.result + 1 = ap (λ n. n + 1) (sym c.programs-count.ensures.programs) in
    subst (λ (n : ℕ). AreNumbered n (length c.args.movers.items) c.args.movers.items) count c.requires.mover_numbers

pub seats_of-seats-requires-clause-room : goal.seats_of-seats-requires-clause-room
seats_of-seats-requires-clause-room g c κs within =
    let many : length c.run_beside-movers.result.0.items ≡ length c.args.movers.items = c.run_beside-movers.ensures.movers.count ∙ c.in_ok-movers.ensures.many in
    let len = c.len-2.ensures in
    let items = c.args.movers.ok.0 in
    let all : c.len-2.result ≡ length c.args.movers.items = omega arith in
    let room : c.programs-count.result + c.len-2.result ≤ vec_capacity c.in_ok-seats.seats = c.in_ok-seats.ensures.capacity in
    omega arith

pub all_ends-requires-clause-empty : goal.all_ends-requires-clause-empty
all_ends-requires-clause-empty g c κs within = (c.in_ok-ends.ensures.len, c.in_ok-ends.ensures.items)

pub all_ends-requires-clause-seats : goal.all_ends-requires-clause-seats
all_ends-requires-clause-seats g c κs within =
    let programs = c.programs-count.ensures.programs ∙ sym (ap (λ (r : Roster). length r.programs) c.in_ok-queue.ensures.queue) in
    let filed = c.file_all.ensures.count in
    let given = c.seats_of-seats.ensures.room in
    let capacity = given.0 in
    let taken = given.1 in
    let same = c.run_beside-movers.ensures.movers.count in
    let many = c.in_ok-movers.ensures.many in
    let room = c.in_ok-seats.ensures.capacity in
    let len = c.len-2.ensures in
    let items = c.args.movers.ok.0 in
    omega arith

-- ---- the seats that came back

pub meet-requires-clause-table : goal.meet-requires-clause-table
meet-requires-clause-table g c κs within =
    let same = same_rows c.in_ok-movers.movers.items c.run_beside-movers.result.0.items c.run_beside-movers.ensures.movers in
    let given = subst (λ (l : List (Mover g.row.S.Denot g.row.S-Cell.Denot)). AreGivenBack g.S.RawStore.reliable l c.seats_of-seats.result.items) same c.seats_of-seats.ensures.given in
    subst (λ (t : TableView). All (IsSeat t) c.in_ok-programs.seats.items) (sym c.table.ensures)
    (seats_are g.S.RawStore.honest g.S.RawStore.reliable c.args.region.now.table c.args.region.now.programs c.args.share (c.programs-count.result + 1) c.args.evacuators (length c.args.movers.items) c.in_ok-queue.queue.roster c.seats_of-seats.result.items
    c.in_ok-programs.seats.items c.in_ok-programs.programs.items c.in_ok-movers.movers.items c.in_ok-queue.ensures.queue c.in_ok-programs.ensures given c.in_ok-movers.ensures)

pub meet-requires-clause-empty : goal.meet-requires-clause-empty
meet-requires-clause-empty g c κs within =
    let same = same_rows c.in_ok-movers.movers.items c.run_beside-movers.result.0.items c.run_beside-movers.ensures.movers in
    let given = subst (λ (l : List (Mover g.row.S.Denot g.row.S-Cell.Denot)). AreGivenBack g.S.RawStore.reliable l c.seats_of-seats.result.items) same c.seats_of-seats.ensures.given in
    without_berths g.S.RawStore.honest g.S.RawStore.reliable c.args.region.now.table c.args.region.now.programs c.args.share (c.programs-count.result + 1) c.args.evacuators (length c.args.movers.items) c.in_ok-queue.queue.roster c.seats_of-seats.result.items
    c.in_ok-programs.seats.items c.in_ok-programs.programs.items c.in_ok-movers.movers.items c.in_ok-queue.ensures.queue c.in_ok-programs.ensures given c.in_ok-movers.ensures

pub meet-requires-clause-some : goal.meet-requires-clause-some
meet-requires-clause-some g c κs within =
    let same = same_rows c.in_ok-movers.movers.items c.run_beside-movers.result.0.items c.run_beside-movers.ensures.movers in
    let given = subst (λ (l : List (Mover g.row.S.Denot g.row.S-Cell.Denot)). AreGivenBack g.S.RawStore.reliable l c.seats_of-seats.result.items) same c.seats_of-seats.ensures.given in (
      subst (λ (t : TableView). 0 < t.sizes.objects) (sym c.table.ensures) c.requires.some.1,
      some_seats g.S.RawStore.honest g.S.RawStore.reliable c.args.region.now.table c.args.region.now.programs c.args.share (c.programs-count.result + 1) c.args.evacuators (length c.args.movers.items) c.in_ok-queue.queue.roster c.seats_of-seats.result.items
          c.in_ok-programs.seats.items c.in_ok-programs.programs.items c.in_ok-movers.movers.items c.in_ok-queue.ensures.queue c.in_ok-programs.ensures given c.in_ok-movers.ensures c.requires.some.0,
    )

pub returns-clause-together : goal.returns-clause-together
returns-clause-together g c = λ sure.
    let same = same_rows c.in_ok-movers.movers.items c.run_beside-movers.result.0.items c.run_beside-movers.ensures.movers in
    let given = subst (λ (l : List (Mover g.row.S.Denot g.row.S-Cell.Denot)). AreGivenBack g.S.RawStore.reliable l c.seats_of-seats.result.items) same c.seats_of-seats.ensures.given in
    let t = c.args.region.now.table in
    let are = subst (λ (n : ℕ). AreMovers t (n + 1) c.args.evacuators (length c.args.movers.items) c.in_ok-movers.movers.items) c.programs-count.ensures.programs c.in_ok-movers.ensures in
    let meet = subst (λ (v : TableView). AreTogether (slot_keeps g.S.RawStore.fits g.S.RawStore.content v.sizes.cells) (slot_has g.S.RawStore.fits v.sizes.cells) g.S.RawStore.honest v.sizes (map seated_as c.in_ok-programs.seats.items)) c.table.ensures c.meet.ensures in
    together (slot_keeps g.S.RawStore.fits g.S.RawStore.content t.sizes.cells) (slot_has g.S.RawStore.fits t.sizes.cells) g.S.RawStore.honest g.S.RawStore.reliable t c.args.region.now.programs c.args.share c.args.evacuators (length c.args.movers.items)
    c.in_ok-queue.queue.roster c.seats_of-seats.result.items c.in_ok-programs.seats.items c.in_ok-programs.programs.items c.in_ok-movers.movers.items c.in_ok-queue.ensures.queue c.in_ok-programs.ensures given are meet c.requires.seats c.requires.some.2 sure
