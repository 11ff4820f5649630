use Rattle.std.proofs.Common.{rules, arith, ◌≡◌, ◌∙◌, ◌+◌, ◌∷◌, Option, None, MatchOption, ap, length, subst, sym}
use Rattle.program_run.specs.Runs.{RunView}
use Rattle.std.specs.List.{All}
use Rattle.std.specs.Vec.Iter.{into_iter_items}
use Rattle.task_queue.specs.Tasked.{IsTask}
use Rattle.executor.proofs.Composed.{all_first, all_rest, not_some}
use Rattle.executor.proofs.starting.fill.Goals as goal

pub loop-task-init : goal.loop-task-init
loop-task-init g c =
    let gives = c.into_iter-task-iterator.ensures.into_iter_gives.0 in
    (tt, tt, subst (All (IsTask c.args.queue.now.roster)) (sym gives) c.requires.tasks, c.requires.pass, c.requires.in_hand ∙ sym (ap length gives))

-- the task of a turn is one of those
pub put-requires-clause-task : goal.put-requires-clause-task
put-requires-clause-task g c κs within =
    let took : into_iter_items c.loop-task.task-iterator ≡ c.in-Some.task ∷ into_iter_items c.next.new.self = search rules in
    all_first (IsTask c.args.queue.now.roster) _ (into_iter_items c.next.new.self) c.in-Some.task took c.loop-task.invariant.2

pub loop-task-preserved : goal.loop-task-preserved
loop-task-preserved g c =
    let took : into_iter_items c.loop-task.task-iterator ≡ c.in-Some.task ∷ into_iter_items c.next.new.self = search rules in
    let long = ap length took in
    let held = c.loop-task.invariant.4 in
    let none : c.put.result ≡ None = not_some c.put.result (sym c.is_some.ensures ∙ c.if-is_some.false) in
    let put : c.put.new.pass.in_hand + 1 ≡ c.loop-task.pass.in_hand =
    subst (λ (r : Option RunView). MatchOption r (c.put.new.pass.in_hand + 1 ≡ c.loop-task.pass.in_hand) (λ t. (t ≡ c.in-Some.task) × (c.put.new.pass ≡ c.loop-task.pass))) none c.put.ensures.put in
    (tt, tt, all_rest (IsTask c.args.queue.now.roster) _ (into_iter_items c.next.new.self) c.in-Some.task took c.loop-task.invariant.2, c.put.ensures.queue, omega arith)
