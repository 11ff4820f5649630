-- Where a seat is between the calls of a scenario.
use Rattle.std.specs.Prelude.{◌≡◌, ℕ, ◌<◌, List, Option, Some, None}
use Rattle.pointer_word.specs.Asked.{HasNothing, HasNoFrame}
use Rattle.object_lock.specs.Seats.{Owns, note}
use Rattle.object_lock.specs.SeatViews.{SeatView, TableView, IsSeat}
use Rattle.object_lock.specs.Telling.{HasPut}

-- the mover has nothing in hand
pub record IsIdle {W C : Type 0} (t : TableView) (s : SeatView W C) : Type 0 where
  pub seat : IsSeat t s
  pub empty : HasNothing s.view.hand

-- the object is the owner's own and has no hold, and the owner has nothing in hand
pub record IsShut {W C : Type 0} (t : TableView) (s : SeatView W C) (o : ℕ) : Type 0 where
  pub seat : IsSeat t s
  pub own : Owns s.view o
  pub count : (note s.view o).count ≡ 0
  pub empty : HasNothing s.view.hand

-- the object is the owner's own, has one hold, and is in the frame f; the owner has nothing in hand
pub record IsOpen {W C : Type 0} (t : TableView) (s : SeatView W C) (o f : ℕ) : Type 0 where
  pub seat : IsSeat t s
  pub own : Owns s.view o
  pub count : (note s.view o).count ≡ 1
  pub frame : (note s.view o).frame ≡ Some f
  pub room : f < t.sizes.frames
  pub empty : HasNothing s.view.hand

-- the mover is moving the object out of the frame f
pub record IsMoving {W C : Type 0} (t : TableView) (s : SeatView W C) (o f : ℕ) : Type 0 where
  pub seat : IsSeat t s
  pub near : o < t.sizes.objects
  pub room : f < t.sizes.frames
  pub leaving : s.view.hand.leaving ≡ Some o
  pub source : s.view.hand.source ≡ f
  pub frameless : HasNoFrame s.view.hand
  pub alone : s.view.hand.bringing ≡ None

-- and has put its cells into its berth
pub record IsPut {W C : Type 0} (fits : C → ℕ → Type 0) (content : C → Option (List ℕ)) (t : TableView) (s : SeatView W C) (o f : ℕ) : Type 0 where
  pub moving : IsMoving t s o f
  pub put : HasPut fits content t.sizes.cells o s

-- the mover has moved an object out of the frame f, and not released it
pub record IsFreeing {W C : Type 0} (t : TableView) (s : SeatView W C) (f : ℕ) : Type 0 where
  pub seat : IsSeat t s
  pub room : f < t.sizes.frames
  pub freed : s.view.hand.freed ≡ Some f
  pub claimed : s.view.hand.claimed ≡ None
  pub leaving : s.view.hand.leaving ≡ None
  pub bringing : s.view.hand.bringing ≡ None
