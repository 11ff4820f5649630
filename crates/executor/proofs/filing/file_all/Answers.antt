use Rattle.std.proofs.Common.{rules, ◌≡◌, ◌∷◌, subst, sym}
use Rattle.std.specs.List.{All}
use Rattle.std.specs.Vec.Iter.{into_iter_items}
use Rattle.task_queue.specs.Queues.{QueueView}
use Rattle.executor.specs.Ends.{AreDone}
use Rattle.executor.proofs.Composed.{all_first, all_rest}
use Rattle.executor.proofs.filing.file_all.Goals as goal

pub loop-worker-init : goal.loop-worker-init
loop-worker-init g c =
    let With : QueueView → Type 0 = λ w. w ≡ c.args.queue.now in
    let gives = c.into_iter-worker-iterator.ensures.into_iter_gives.0 in
    (tt, tt, subst (All With) (sym gives) c.requires.workers, c.requires.filed)

-- the worker of a turn is with this queue
pub file_done-requires-clause-done : goal.file_done-requires-clause-done
file_done-requires-clause-done g c κs within =
    let With : QueueView → Type 0 = λ w. w ≡ c.args.queue.now in
    let took : into_iter_items c.loop-worker.worker-iterator ≡ c.in-Some.worker ∷ into_iter_items c.next.new.self = search rules in
    let same = all_first With _ (into_iter_items c.next.new.self) c.in-Some.worker took c.loop-worker.invariant.2 in
    subst (λ (w : QueueView). AreDone g.S.RawStore.honest g.S.RawStore.reliable w.roster c.into_done.result.items) same c.into_done.ensures

pub loop-worker-preserved : goal.loop-worker-preserved
loop-worker-preserved g c =
    let With : QueueView → Type 0 = λ w. w ≡ c.args.queue.now in
    let took : into_iter_items c.loop-worker.worker-iterator ≡ c.in-Some.worker ∷ into_iter_items c.next.new.self = search rules in
    (tt, tt, all_rest With _ (into_iter_items c.next.new.self) c.in-Some.worker took c.loop-worker.invariant.2, c.file_done.ensures)
