-- What a worker keeps, call by call.
use Rattle.std.proofs.Common.{◌≡◌, ◌<◌, ◌+◌, ◌*◌, ℕ, List, [], ◌∷◌, ◌++◌, Option, Some, None, MatchOption, ◌∙◌, ap, length, sym, subst, arith, true}
use Rattle.std.proofs.lemmas.List.Elements.{All-push}
use Rattle.program_run.specs.Acting.{IsLeft, share_by}
use Rattle.program_run.specs.Executed.{IsFinishedOver}
use Rattle.program_run.specs.declared.run.Finished.{Finished}
use Rattle.program_run.specs.Runs.{HasTurned, RunView, share_in}
use Rattle.program_run.specs.declared.run.Turn.{Turn}
use Rattle.program_run.specs.declared.run.Turn.TheVariants as turn
use Rattle.region.specs.Admission.{image_at}
use Rattle.task_queue.specs.Queues.{PassView, QueueView}
use Rattle.task_queue.specs.Tasked.{IsTask, roster_of}
use Rattle.task_queue.specs.declared.rule.Roster.{Roster}
use Rattle.object_lock.specs.SeatViews.{SeatView}
use Rattle.executor.specs.Ends.{AreDone, DoneView, HasHadTurns, IsDone, Works}

-- a task that was run and goes on is the same task
pub still_task : (r : Roster) (p q : RunView) → IsTask r p → q ≡ record p { completed = q.completed; printed = q.printed } → IsTask r q
still_task r p q t is = subst (IsTask r) (sym is) (record { of = t.of; named = t.named; placed = t.placed; going = t.going })

-- behind some turns there was one more
pub one_more : (n : ℕ) (p q s : RunView) (t : Turn) → q ≡ record p { completed = q.completed; printed = q.printed } → HasTurned n q s t → HasHadTurns p s t
one_more n p q s turn.Held h e = subst (λ (x : RunView). x ≡ record p { completed = x.completed; printed = x.printed }) (sym e) h
one_more n p q s turn.Ran h e =
    let more : s.completed ≡ q.completed + n = ap (λ (x : RunView). x.completed) e in
    e ∙ ap (λ k. record q { completed = k; printed = s.printed }) (sym more) ∙ ap (λ (x : RunView). record x { completed = s.completed; printed = s.printed }) h
one_more n p q s turn.Ended h e = e.1 ∙ ap (λ (x : RunView). record x { completed = s.completed; refusals = s.refusals; printed = s.printed; over = true }) h

-- the end of a task whose run is over is that of its program, and its seat the program's
pub ended_task : {W C : Type 0} (honest reliable : Type 0) (r : Roster) (p q : RunView) (k : ℕ) (e : Finished) (x : SeatView W C) → IsTask r p → q ≡ record p { completed = q.completed; refusals = q.refusals; printed = q.printed; over = true } → k ≡ q.number
    → (honest → IsFinishedOver reliable (share_in q) (image_at q.programs q.number) e) → IsLeft honest reliable q.table (share_in q) (image_at q.programs q.number) e x → IsDone honest reliable r (record { number = k; end = e; seat = x })
ended_task honest reliable r p q k e x t is same told left =
    let of : roster_of q ≡ r = ap roster_of is ∙ t.of in
    let of_p : q.number ≡ p.number = ap (λ (x : RunView). x.number) is in
    let share : q.objects ≡ r.objects = ap (λ (s : Roster). s.objects) of in
    let first : q.first ≡ q.number * q.objects =
    ap (λ (x : RunView). x.first) is ∙ t.placed ∙ ap (λ n. n * r.objects) (sym of_p) ∙ ap (λ n. q.number * n) (sym share) in
    let theirs : (honest → IsFinishedOver reliable (share_by q.number q.objects) (image_at q.programs q.number) e) × IsLeft honest reliable q.table (share_by q.number q.objects) (image_at q.programs q.number) e x =
    subst (λ a. (honest → IsFinishedOver reliable (record { program = q.number; first = a; objects = q.objects }) (image_at q.programs q.number) e) × IsLeft honest reliable q.table (record { program = q.number; first = a; objects = q.objects }) (image_at q.programs q.number) e x) first (told, left) in (
      subst (λ n. n < length r.programs) (sym (same ∙ of_p)) t.named,
      subst (λ (x' : Roster × ℕ). (honest → IsFinishedOver reliable (share_by x'.1 x'.0.objects) (image_at x'.0.programs x'.1) e) × IsLeft honest reliable x'.0.table (share_by x'.1 x'.0.objects) (image_at x'.0.programs x'.1) e x) (λ i. (of i, sym same i)) theirs,
    )

module _ {W C : Type 0} (honest reliable : Type 0) (q : QueueView) where
  -- a task in hand was put, or is kept
  pub works_put : (p after : PassView) (u t : RunView) (kept : Option RunView) (done : List (DoneView W C)) (count most : ℕ) → Works honest reliable q p (Some u) done count most → after.queue ≡ q
      → MatchOption kept (after.in_hand + 1 ≡ p.in_hand) (λ b. (b ≡ t) × (after ≡ p)) → IsTask q.roster t → Works honest reliable q after kept done count most
  works_put p after u t None done count most w same put task =
      let hand = w.hand in
      let few = w.few in
      record { queue = same; hand = omega arith; few = omega arith; room = w.room; task = tt; ends = w.ends }
  works_put p after u t (Some b) done count most w same put task =
      let back : IsTask q.roster b = subst (IsTask q.roster) (sym put.0) task in
      subst (λ (x : PassView). Works honest reliable q x (Some b) done count most) (sym put.1) (record { queue = w.queue; hand = w.hand; few = w.few; room = w.room; task = back; ends = w.ends })

  -- the end of a task in hand was filed
  pub works_filed : (p : PassView) (u : RunView) (done new : List (DoneView W C)) (d : DoneView W C) (count more most : ℕ) → Works honest reliable q p (Some u) done count most → new ≡ done ++ d ∷ [] → more ≡ count + 1
      → IsDone honest reliable q.roster d → Works honest reliable q p None new more most
  works_filed p u done new d count more most w is one end =
      let hand = w.hand in
      record {
        queue = w.queue;
        hand = omega arith;
        few = w.few;
        room = w.room;
        task = tt;
        ends = subst (AreDone honest reliable q.roster) (sym is) (All-push (IsDone honest reliable q.roster) done d w.ends end);
      }
