-- How all programs of a region end.
use Rattle.std.specs.Prelude.{◌≡◌, ℕ, ◌<◌, ◌≤◌, ◌+◌, ◌++◌, IfSome, List, [], Option, Some, None, length, map, slice_index_or, slice_get, true}
use Rattle.std.specs.List.{All, AllZip}
use Rattle.cells.specs.declared.ending.Ended.{Ended}
use Rattle.code_form.specs.Form.{image_of}
use Rattle.object_lock.specs.SeatViews.{IsSeat, SeatView, TableView}
use Rattle.pointer_word.specs.Asked.{HasNothing}
use Rattle.program_run.specs.Acting.{IsLeft, share_by}
use Rattle.program_run.specs.Executed.{IsExecutedOver, IsFinishedOver}
use Rattle.program_run.specs.declared.run.Finished.{Finished}
use Rattle.program_run.specs.declared.run.Turn.{Turn}
use Rattle.program_run.specs.declared.run.Turn.TheVariants as turn
use Rattle.program_run.specs.Runs.{RunView}
use Rattle.region.specs.Admission.{image_at}
use Rattle.scope_verifier.specs.declared.acceptance.Verified.{Verified}
use Rattle.task_queue.specs.Queues.{PassView, QueueView}
use Rattle.task_queue.specs.Tasked.{IsTask}
use Rattle.task_queue.specs.declared.rule.Roster.{Roster}

-- a seat of the table, with empty hands, that has done nothing as a mover yet
abbrev pub IsSeatOf : {W C : Type 0} → TableView → SeatView W C → Type 0
IsSeatOf t s = IsSeat t s × HasNothing s.view.hand × (s.view.hand.past ≡ []) × (s.log ≡ [])

-- how many tasks these are
abbrev pub in_hand : Option RunView → ℕ
in_hand None = 0
in_hand (Some t) = 1

-- an end is that of program k of the roster, where the store is honest
abbrev pub IsEndOf : Type 0 → Type 0 → Roster → ℕ → Finished → Type 0
IsEndOf honest reliable r k e = honest → IsFinishedOver reliable (share_by k r.objects) (image_at r.programs k) e

-- the end of a program, with its number, and its seat
pub record DoneView (W C : Type 0) : Type 0 where
  pub number : ℕ
  pub end : Finished
  pub seat : SeatView W C

-- an end with a seat is that of program k of the roster, and the seat is the program's: all that it did its session did
abbrev pub IsDoneAt : {W C : Type 0} → Type 0 → Type 0 → Roster → ℕ → DoneView W C → Type 0
IsDoneAt honest reliable r k d = IsEndOf honest reliable r k d.end × IsLeft honest reliable r.table (share_by k r.objects) (image_at r.programs k) d.end d.seat

-- an end is that of the program of its number
abbrev pub IsDone : {W C : Type 0} → Type 0 → Type 0 → Roster → DoneView W C → Type 0
IsDone honest reliable r d = (d.number < length r.programs) × IsDoneAt honest reliable r d.number d

-- each of these ends is that of the program of its number
abbrev pub AreDone : {W C : Type 0} → Type 0 → Type 0 → Roster → List (DoneView W C) → Type 0
AreDone honest reliable r = All (IsDone honest reliable r)

-- a program had some turns, of which this became of the last: it goes on as it was but for what it completed and printed, or it is over
abbrev pub HasHadTurns : RunView → RunView → Turn → Type 0
HasHadTurns p q turn.Ended = q ≡ record p { completed = q.completed; refusals = q.refusals; printed = q.printed; over = true }
HasHadTurns p q _ = q ≡ record p { completed = q.completed; printed = q.printed }

-- A worker of this queue, whose pass is this, which keeps this task, and has so many of these ends and room for so many: each task that is in hand with it has
-- ended or is kept
pub record Works {W C : Type 0} (honest reliable : Type 0) (q : QueueView) (p : PassView) (kept : Option RunView) (done : List (DoneView W C)) (count most : ℕ) : Type 0 where
  pub queue : p.queue ≡ q
  pub hand : p.in_hand ≡ count + in_hand kept
  pub few : p.in_hand ≤ length q.roster.programs
  pub room : length q.roster.programs ≤ most
  pub task : IfSome kept (λ t. IsTask q.roster t)
  pub ends : AreDone honest reliable q.roster done

-- there is a place for each program, and an end in it is that of the program
pub record AreFiled {W C : Type 0} (honest reliable : Type 0) (r : Roster) (places : List (Option (DoneView W C))) : Type 0 where
  pub count : length places ≡ length r.programs
  pub each : (k : ℕ) (d : DoneView W C) → slice_get places k ≡ Some (Some d) → IsDoneAt honest reliable r k d

-- each of these is as it was
pub record AreSame {A : Type 0} (old new : List A) : Type 0 where
  pub count : length new ≡ length old
  pub each : (k : ℕ) (q : A) → k < length old → slice_index_or new k q ≡ slice_index_or old k q

-- There is an end of each program of the roster with its seat, in their order: these are the ends, and these seats come behind those
pub record AreAllDone {W C : Type 0} (honest reliable : Type 0) (r : Roster) (before : List (SeatView W C)) (ends : List Finished) (seats : List (SeatView W C)) : Type 0 where
  pub done : List (DoneView W C)
  pub count : length done ≡ length r.programs
  pub these : ends ≡ map (λ d. d.end) done
  pub behind : seats ≡ before ++ map (λ d. d.seat) done
  pub each : (k : ℕ) (d : DoneView W C) → slice_get done k ≡ Some d → IsDoneAt honest reliable r k d

-- There is an end of each program, at the program's place: over an honest store it is that of the code's run with so many objects
abbrev pub AreEnds : Type 0 → Type 0 → ℕ → List Verified → List Ended → Type 0
AreEnds honest reliable objects = AllZip (λ v e. honest → IsExecutedOver reliable objects (image_of v.image) e)

-- The same of ends that are told with the number of calls that were refused through each program's own port, and with what each program's session did at the program's seat
pub record AreFinished (honest reliable : Type 0) (objects : ℕ) (programs : List Verified) (ends : List Finished) : Type 0 where
  pub count : length ends ≡ length programs
  pub each : (k : ℕ) (e : Finished) → slice_get ends k ≡ Some e → honest → IsFinishedOver reliable (share_by k objects) (image_at programs k) e

-- the end that is told with a number
abbrev pub end_of : Finished → Ended
end_of f = f.end
