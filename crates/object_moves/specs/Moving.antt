-- What moving an object out of a frame, and bringing one into a frame, leaves of its mover's seat.
use Rattle.std.specs.Prelude.{◌≡◌, ℕ, ◌<◌, List, Bool, true, false, Option, Some, None}
use Rattle.pointer_word.specs.Hands.{Hand, aborting, arriving, committing, leaving, releasing, retreating, told, unclaiming}
use Rattle.remote_store.specs.declared.port.Refusals.{Refusals}
use Rattle.object_lock.specs.Plays.{Holds, IsUnheld}
use Rattle.object_lock.specs.Seats.{note, with_hand, with_note}
use Rattle.object_lock.specs.SeatViews.{SeatView}
use Rattle.object_moves.specs.Taken.{Refused}
use Rattle.object_moves.specs.declared.moved.Moved.{Moved}
use Rattle.object_moves.specs.declared.moved.Moved.TheVariants as M

-- the hand of a mover that was moving an object out and copied these cells: the object left and the frame is given up, or the object is given up
abbrev pub hand_after : Moved → Hand → List (ℕ × ℕ) → Hand
hand_after M.Left x ps = releasing (committing (record x { copied = ps }) x.source)
hand_after M.Stayed x ps = aborting (record x { copied = ps })
hand_after M.Failed x ps = aborting (record x { copied = ps })

-- a call was refused through the port just where the store failed
abbrev pub Counts : Type 0 → Refusals → Refusals → Moved → Type 0
Counts reliable before after M.Left = after ≡ before
Counts reliable before after M.Stayed = after ≡ before
Counts reliable before after M.Failed = Refused reliable before after

-- An object was moved out of a frame, or given up. Of the seat only the hand changed, the berth that was moved out, which is out of hand, its way to the
-- store, the count of what was refused, and its log, which grew
abbrev pub MovesAway : {W C : Type 0} → Type 0 → SeatView W C → SeatView W C → Moved → Type 0
MovesAway reliable s t r = (t ≡ record s { view = with_hand s.view (hand_after r s.view.hand t.view.hand.copied); taken = None; store = t.store; refusals = t.refusals; log = t.log }) × Counts reliable s.refusals t.refusals r

-- an object whose cells were put into its berth left its frame, which is given up, or is given up
abbrev pub LetsGo : {W C : Type 0} → SeatView W C → SeatView W C → Moved → Type 0
LetsGo s t M.Left = t ≡ record s { view = with_hand s.view (releasing (committing s.view.hand s.view.hand.source)); taken = None; log = t.log }
LetsGo s t M.Stayed = t ≡ record s { view = with_hand s.view (aborting s.view.hand); taken = None; log = t.log }
LetsGo s t M.Failed = ⊥

-- an object that was clean in the frame f left it, which is given up, or nothing changed
abbrev pub LeavesClean : {W C : Type 0} → ℕ → SeatView W C → SeatView W C → Bool → Type 0
LeavesClean f s t true = t ≡ record s { view = with_hand s.view (releasing (leaving s.view.hand f)); log = t.log }
LeavesClean f s t false = t ≡ s

-- an object that was clean in a frame of the table left it, which is given up, or nothing changed
abbrev pub LeavesOne : {W C : Type 0} → SeatView W C → SeatView W C → Option ℕ → Type 0
LeavesOne s t None = t ≡ s
LeavesOne s t (Some f) = (f < s.view.sizes.frames) × LeavesClean f s t true

-- a mover has the berth of the object o in hand, to bring it in, and the frame f, which it claimed for it; and nothing else
abbrev pub BringsInto : ℕ → ℕ → Hand → Type 0
BringsInto o f x = (x.bringing ≡ Some o) × (x.claimed ≡ Some f) × (x.leaving ≡ None) × (x.freed ≡ None)

-- the hand of a mover that brought an object into the frame that it had claimed, having filled these cells
abbrev pub hand_arrived : Hand → List (ℕ × ℕ) → Hand
hand_arrived x ps = arriving (record x { filled = ps })

-- The object o was brought into the frame f, and the berth and the frame are out of hand. A mover that holds the object is told of the frame; else
-- no note changed
abbrev pub Arrived : {W C : Type 0} → ℕ → ℕ → SeatView W C → SeatView W C → Type 0
Arrived o f s t =
    (Holds s.view o → t ≡ record s { view = with_note (with_hand s.view (hand_arrived s.view.hand t.view.hand.filled)) o (told (note s.view o) (Some f)); brought = None; store = t.store; refusals = t.refusals; log = t.log })
    × (IsUnheld s.view o → t ≡ record s { view = with_hand s.view (hand_arrived s.view.hand t.view.hand.filled); brought = None; store = t.store; refusals = t.refusals; log = t.log })

-- the object and the frame were given up as the store refused a get
abbrev pub GivenUp : {W C : Type 0} → Type 0 → SeatView W C → SeatView W C → Type 0
GivenUp reliable s t = (t ≡ record s { view = with_hand s.view (retreating (unclaiming s.view.hand)); brought = None; store = t.store; refusals = t.refusals; log = t.log }) × Refused reliable s.refusals t.refusals

-- the object o was brought into the frame f, or it and the frame were given up
abbrev pub ArrivedOr : {W C : Type 0} → Type 0 → ℕ → ℕ → SeatView W C → SeatView W C → Bool → Type 0
ArrivedOr reliable o f s t true = Arrived o f s t × (t.refusals ≡ s.refusals)
ArrivedOr reliable o f s t false = GivenUp reliable s t
