-- What the queue of tasks is to its callers, and a pass of it.
use Rattle.std.specs.Prelude.{ℕ}
use Rattle.atomic_table.specs.Seated.{TableId}
use Rattle.task_queue.specs.declared.rule.Roster.{Roster}

-- which queue it is, and of which roster its tasks are
pub record QueueView : Type 0 where
  pub id : TableId
  pub roster : Roster

-- of which queue a pass is, and how many tasks are in hand with it
pub record PassView : Type 0 where
  pub queue : QueueView
  pub in_hand : ℕ
