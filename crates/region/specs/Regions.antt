-- A region as callers see it.
use Rattle.std.specs.Prelude.{ℕ, List}
use Rattle.object_lock.specs.SeatViews.{TableView}
use Rattle.scope_verifier.specs.declared.acceptance.Verified.{Verified}

-- its table, its programs in their order, how many objects these have, and how many fetchers there are
pub record RegionView : Type 0 where
  pub table : TableView
  pub programs : List Verified
  pub objects : ℕ
  pub fetchers : ℕ
