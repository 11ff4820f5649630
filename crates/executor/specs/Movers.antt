-- What a mover is to those who run it.
use Rattle.std.specs.Prelude.{◌≡◌, ℕ}
use Rattle.object_lock.specs.SeatViews.{IsSeat, SeatView, TableView}
use Rattle.pointer_word.specs.Asked.{HasNothing}

-- a mover at its seat: of which table that is, and its number there
pub record MoverView : Type 0 where
  pub table : TableView
  pub mover : ℕ

-- the seat of a mover, which has nothing in hand
abbrev pub IsOf : {W C : Type 0} → MoverView → SeatView W C → Type 0
IsOf m x = IsSeat m.table x × HasNothing x.view.hand × (x.view.number ≡ m.mover)
