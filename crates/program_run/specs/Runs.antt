-- A program that is run to its end.
use Rattle.std.specs.Prelude.{◌≡◌, ◌≢◌, ℕ, ◌+◌, ◌≤◌, Bool, true, false, List, []}
use Rattle.cells.specs.declared.ending.Run.{Run}
use Rattle.cells.specs.declared.ending.Run.TheVariants.{Running, Stopped, Wanted}
use Rattle.cells.specs.declared.ending.Want.TheVariants.{StoreFailed}
use Rattle.object_lock.specs.SeatViews.{TableView}
use Rattle.session.specs.State.{CompletesUpTo, IsAt, IsGoing, Logged, State}
use Rattle.remote_store.specs.Refusing.{no_refusals}
use Rattle.remote_store.specs.declared.port.Refusals.{Refusals}
use Rattle.scope_verifier.specs.declared.acceptance.Verified.{Verified}
use Rattle.program_run.specs.Acting.{HasActed, Share}
use Rattle.program_run.specs.Executed.{HasRefused, IsOver}
use Rattle.program_run.specs.declared.run.Turn.{Turn}
use Rattle.program_run.specs.declared.run.Turn.TheVariants as turn

-- a program that is run: the table and the programs of its region, its number, where its objects begin and how many they are, how many instructions it completed, what was refused through its own port, what it printed, and whether its run is over
pub record RunView : Type 0 where
  pub table : TableView
  pub programs : List Verified
  pub number : ℕ
  pub first : ℕ
  pub objects : ℕ
  pub completed : ℕ
  pub refusals : Refusals
  pub printed : List ℕ
  pub over : Bool

-- this one of these programs, at its beginning, at a seat of this table
abbrev pub begun : TableView → List Verified → Share → RunView
begun table programs w = record { table = table; programs = programs; number = w.program; first = w.first; objects = w.objects; completed = 0; refusals = no_refusals; printed = []; over = false }

-- which program it is, with which objects
abbrev pub share_in : RunView → Share
share_in p = record { program = p.number; first = p.first; objects = p.objects }

-- What became of a program's turn of n instructions: nothing was done; or they were completed, and it goes on, with no call refused; or its run is over, after
-- at most so many more. What it printed then is told by itself
abbrev pub HasTurned : ℕ → RunView → RunView → Turn → Type 0
HasTurned n p q turn.Held = q ≡ p
HasTurned n p q turn.Ran = q ≡ record p { completed = p.completed + n; printed = q.printed }
HasTurned n p q turn.Ended = CompletesUpTo n p.completed q.completed × (q ≡ record p { completed = q.completed; refusals = q.refusals; printed = q.printed; over = true })

-- whether a run that answered this is over
abbrev pub is_over : Run → Bool
is_over Running = false
is_over (Stopped x) = true
is_over (Wanted w) = true

-- how far a session has come, through whose port nothing was refused at its beginning: it goes on, and nothing is refused yet; or it is at its end
abbrev pub HasCome : Type 0 → State → Run → Type 0
HasCome reliable s Running = IsGoing s × (s.refusals ≡ no_refusals)
HasCome reliable s (Stopped x) = IsOver reliable no_refusals s (Stopped x)
HasCome reliable s (Wanted w) = IsOver reliable no_refusals s (Wanted w)

-- A session of a verified image, over a table of its pieces, that has come so far; over an honest store a call was refused through its port exactly where it wants
-- the store, and over one that is reliable, too, it never does. It came there by what it did from its beginning on
pub record IsOnRun (honest reliable : Type 0) (s : Logged) (r : Run) : Type 0 where
  pub at : honest → IsAt s.state
  pub cells : s.state.view.sizes.cells ≡ s.state.image.piece
  pub share : s.state.view.low ≤ s.state.view.high
  pub come : HasCome reliable s.state r
  pub own : honest → HasRefused r s.state.refusals
  pub sure : honest → reliable → r ≢ Wanted StoreFailed
  pub acted : HasActed honest reliable s.state.image s r
