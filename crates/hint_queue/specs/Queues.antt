-- What the queue of hints is to its callers, and a pass of it.
use Rattle.std.specs.Prelude.{ℕ}
use Rattle.atomic_table.specs.Seated.{TableId}

-- which queue it is, and below which number its hints are
pub record HintsView : Type 0 where
  pub id : TableId
  pub objects : ℕ
