-- What the session of a program did from its beginning on.
use Rattle.std.specs.Prelude.{◌≡◌, ◌+◌, ◌-◌, ◌*◌, ℕ, suc, [], replicate}
use Rattle.atomic_table.specs.Seated.{TableId}
use Rattle.cells.specs.declared.ending.Run.{Run}
use Rattle.code_form.specs.Form.{Image}
use Rattle.code_form.specs.Effects.{code_run}
use Rattle.code_form.specs.Code.{code, output_of}
use Rattle.pointer_word.specs.Hands.{blank, empty_handed}
use Rattle.object_lock.specs.Joining.{seated_as}
use Rattle.object_lock.specs.Logs.{Seated}
use Rattle.object_lock.specs.Seats.{View}
use Rattle.object_lock.specs.SeatViews.{IsSeat, SeatView, TableView}
use Rattle.object_moves.specs.Taken.{IsQuiet}
use Rattle.remote_store.specs.Refusing.{no_refusals}
use Rattle.session.specs.Performing.{Acts}
use Rattle.session.specs.Pieces.{seated_of}
use Rattle.session.specs.State.{Logged, SameProgram, begin}
use Rattle.program_run.specs.declared.run.Finished.{Finished}

-- which program of a region one is, where its own objects begin, and how many they are
pub record Share : Type 0 where
  pub program : ℕ
  pub first : ℕ
  pub objects : ℕ

-- program k of a region, each of whose programs has so many objects
abbrev pub share_by : ℕ → ℕ → Share
share_by k objects = record { program = k; first = k * objects; objects = objects }

-- that of this seat
abbrev pub share_at : View → Share
share_at v = record { program = v.number - 1; first = v.low; objects = v.high - v.low }

-- the seat has stored nothing, and has no holds and nothing in hand
abbrev pub IsUnused : View → Type 0
IsUnused v = (v.hand ≡ empty_handed) × (v.notes ≡ replicate v.sizes.objects blank)

-- a session of this image at its beginning, at a seat of this table with this view that has done nothing
abbrev pub session_begun : TableId → Image → View → Logged
session_begun t C v = record { state = begin t C v no_refusals; log = [] }

-- A session of this image came to where it is, or to its end, from its beginning at this seat, which was unused: it completed instructions one behind the other, and where it wants
-- something, it came to that then
abbrev pub HasActed : Type 0 → Type 0 → Image → Logged → Run → Type 0
HasActed honest reliable C t r = (v : View) × IsUnused v × SameProgram (begin t.state.table C v no_refusals) t.state × Acts honest reliable (session_begun t.state.table C v) t r

-- What is told of a program's end is what its session came to in all its turns over an honest store, at the seat of this program and with these objects
pub record IsActedOver (reliable : Type 0) (w : Share) (C : Image) (f : Finished) : Type 0 where
  -- where the session was then, and all that its seat had done
  pub last : Logged
  pub acted : HasActed (Unit {0}) reliable C last f.end.run
  pub core : last.state.core ≡ (code_run (code C) f.end.completed).0
  pub cells : last.state.view.sizes.cells ≡ C.piece
  pub mover : last.state.view.number ≡ suc w.program
  pub first : last.state.view.low ≡ w.first
  pub share : last.state.view.high ≡ last.state.view.low + w.objects
  pub printed : f.end.output.items ≡ output_of last.state.core
  pub completed : f.end.completed ≡ last.state.completed
  pub refusals : f.refusals ≡ last.state.refusals

-- all that a seat knows and did is what the session did, over an honest store, that came to this end of the program
abbrev pub IsLeftBy : Type 0 → Share → Image → Finished → Seated → Type 0
IsLeftBy reliable w C f v = (a : IsActedOver reliable w C f) × (v ≡ seated_of a.last)

-- The seat of a program that came to this end: it is one of this table, it has nothing in hand, and all that it did the program's session did
pub record IsLeft {W C : Type 0} (honest reliable : Type 0) (t : TableView) (w : Share) (image : Image) (f : Finished) (x : SeatView W C) : Type 0 where
  pub seat : IsSeat t x
  pub quiet : IsQuiet x.view
  pub by : honest → IsLeftBy reliable w image f (seated_as x)
