use Rattle.std.proofs.Common.{rules, ◌≡◌, ◌∙◌, ◌<◌, length, subst, sym}
use Rattle.std.specs.List.{All}
use Rattle.task_queue.specs.Tasked.{IsTask, roster}
use Rattle.task_queue.specs.declared.rule.Roster.{Roster}
use Rattle.executor.proofs.Composed.{first_task, some_left}
use Rattle.executor.proofs.starting.enqueue.Goals as goal

pub new-requires-after_bounds : goal.new-requires-after_bounds
new-requires-after_bounds g c κs within =
    let some : 0 < length c.args.tasks.items = search (rules, c.if-is_empty.false, c.is_empty.ensures) in
    (first_task (roster c.args.region.now.table c.args.region.now.programs c.args.share) c.args.tasks.items c.remove-first.result some c.remove-first.ensures.value c.requires.tasks).0

pub remove-first-requires : goal.remove-first-requires
remove-first-requires g c = some_left _ (sym c.if-is_empty.false ∙ c.is_empty.ensures)

pub fill-requires-clause-tasks : goal.fill-requires-clause-tasks
fill-requires-clause-tasks g c κs within =
    let all = roster c.args.region.now.table c.args.region.now.programs c.args.share in
    let some : 0 < length c.args.tasks.items = search (rules, c.if-is_empty.false, c.is_empty.ensures) in
    let others = (first_task all c.args.tasks.items c.remove-first.result some c.remove-first.ensures.value c.requires.tasks).1 in
    let left = subst (All (IsTask all)) (sym c.remove-first.ensures.items) others in
    subst (λ (r : Roster). All (IsTask r) c.remove-first.new.self.items) (sym c.in_ok-queue.ensures.queue) left
