use Rattle.std.proofs.Common.{rules, arith, ◌≡◌, ◌+◌, [], subst, sym}
use Rattle.std.proofs.lemmas.List.Elements.{All-push}
use Rattle.std.specs.List.{All}
use Rattle.task_queue.specs.Queues.{QueueView}
use Rattle.executor.proofs.starting.start_workers.Goals as goal

pub loop-started-preserved : goal.loop-started-preserved
loop-started-preserved g c =
    let With : QueueView → Type 0 = λ w. w ≡ c.args.queue.now in
    let more = c.push_reserved.ensures.len in
    let room = c.push_reserved.ensures.capacity in
    let before = c.loop-started.invariant in
    let long = before.2 in
    let most = before.3 in
    (search rules, subst (All With) (sym c.push_reserved.ensures.items) (All-push With c.loop-started.workers.items c.in-Ok.worker before.1 c.in-Ok.ensures), omega arith, omega arith)

pub loop-started-init : goal.loop-started-init
loop-started-init g c =
    let With : QueueView → Type 0 = λ w. w ≡ c.args.queue.now in
    let none : All With [] = λ k d low. absurd (omega arith) in
    (search rules, subst (All With) (sym c.in_ok-workers.ensures.items) none, search rules, search rules)
