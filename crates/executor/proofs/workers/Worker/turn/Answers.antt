use Rattle.std.proofs.Common.{rules, ◌≡◌, ◌+◌, Option, Some, None, MatchOption, subst, sym, true}
use Rattle.std.specs.Mem.{manually_drop_value}
use Rattle.std.specs.Vec.{vec_capacity, vec_len}
use Rattle.program_run.specs.Runs.{RunView}
use Rattle.task_queue.specs.Queues.{PassView}
use Rattle.executor.specs.Ends.{Works}
use Rattle.executor.proofs.Working.{ended_task, still_task, works_filed, works_put}
use Rattle.executor.proofs.workers.Worker.turn.Goals as goal

pub invariant_of-self-in-Ran : goal.invariant_of-self-in-Ran
invariant_of-self-in-Ran g c =
    let h = g.S.RawStore.honest in
    let r = g.S.RawStore.reliable in
    let q = c.self.inside.queue.now in
    let p : PassView = manually_drop_value c.self.inside.pass in
    let after : PassView = c.put_unless-in-Ran.new.pass in
    let items = c.self.inside.done.items in
    let long = vec_len c.self.inside.done in
    let most = vec_capacity c.self.inside.done in
    let was : c.self.inside.kept ≡ Some c.in-Some.task = search rules in
    let w : Works h r q p (Some c.in-Some.task) items long most = subst (λ k. Works h r q p k items long most) was c.self.invariant in
    let ran : c.turns.new.task ≡ record c.in-Some.task { completed = c.turns.new.task.completed; printed = c.turns.new.task.printed } = search rules in
    let put : MatchOption c.put_unless-in-Ran.result (after.in_hand + 1 ≡ p.in_hand) (λ b. (b ≡ c.turns.new.task) × (after ≡ p)) = search rules in
    works_put h r q p after c.in-Some.task c.turns.new.task c.put_unless-in-Ran.result items long most w c.put_unless-in-Ran.ensures.queue put (still_task q.roster c.in-Some.task c.turns.new.task w.task ran)

pub invariant_of-self-in-Ended : goal.invariant_of-self-in-Ended
invariant_of-self-in-Ended g c =
    let h = g.S.RawStore.honest in
    let r = g.S.RawStore.reliable in
    let q = c.self.inside.queue.now in
    let p : PassView = manually_drop_value c.self.inside.pass in
    let items = c.self.inside.done.items in
    let long = vec_len c.self.inside.done in
    let most = vec_capacity c.self.inside.done in
    let was : c.self.inside.kept ≡ Some c.in-Some.task = search rules in
    let w : Works h r q p (Some c.in-Some.task) items long most = subst (λ k. Works h r q p k items long most) was c.self.invariant in
    let ended : c.turns.new.task ≡ record c.in-Some.task { completed = c.turns.new.task.completed; refusals = c.turns.new.task.refusals; printed = c.turns.new.task.printed; over = true } = search rules in
    let end = ended_task h r q.roster c.in-Some.task c.turns.new.task c.number-number.result c.into_finished-end.result.0 c.into_finished-end.result.1 w.task ended c.number-number.ensures.number c.into_finished-end.ensures.end c.into_finished-end.ensures.seat in
    let none : c.take.new.self ≡ None = search rules in
    let more = c.push_reserved.ensures.len in
    let filed = works_filed h r q p c.in-Some.task items c.push_reserved.new.self.items _ long (vec_len c.push_reserved.new.self) most w c.push_reserved.ensures.items (search rules) end in
    let room : vec_capacity c.push_reserved.new.self ≡ most = c.push_reserved.ensures.capacity in
    subst (λ (k : Option RunView). Works h r q p k c.push_reserved.new.self.items (vec_len c.push_reserved.new.self) (vec_capacity c.push_reserved.new.self)) (sym none)
    (subst (λ m. Works h r q p None c.push_reserved.new.self.items (vec_len c.push_reserved.new.self) m) (sym room) filed)

pub invariant_of-self-in-Held : goal.invariant_of-self-in-Held
invariant_of-self-in-Held g c =
    let h = g.S.RawStore.honest in
    let r = g.S.RawStore.reliable in
    let q = c.self.inside.queue.now in
    let p : PassView = manually_drop_value c.self.inside.pass in
    let after : PassView = c.put_unless.new.pass in
    let items = c.self.inside.done.items in
    let long = vec_len c.self.inside.done in
    let most = vec_capacity c.self.inside.done in
    let was : c.self.inside.kept ≡ Some c.in-Some.task = search rules in
    let w : Works h r q p (Some c.in-Some.task) items long most = subst (λ k. Works h r q p k items long most) was c.self.invariant in
    let held : c.turns.new.task ≡ record c.in-Some.task { completed = c.turns.new.task.completed; printed = c.turns.new.task.printed } = search rules in
    let put : MatchOption c.put_unless.result (after.in_hand + 1 ≡ p.in_hand) (λ b. (b ≡ c.turns.new.task) × (after ≡ p)) = search rules in
    works_put h r q p after c.in-Some.task c.turns.new.task c.put_unless.result items long most w c.put_unless.ensures.queue put (still_task q.roster c.in-Some.task c.turns.new.task w.task held)
