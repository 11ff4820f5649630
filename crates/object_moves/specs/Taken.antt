-- What bringing an object into a frame, and moving one out for it, leaves of its owner's seat.
use Rattle.std.specs.Prelude.{◌≡◌, ℕ, ◌+◌, ◌%◌, ◌<◌, Option, Some, None, IsSome, List, []}
use Rattle.pointer_word.specs.Hands.{Hand, claiming, closed, empty_handed, listed, opened, seen, told}
use Rattle.remote_store.specs.declared.port.Refusals.{Refusals}
use Rattle.object_lock.specs.Seats.{View, note, with_hand, with_note}
use Rattle.object_lock.specs.SeatViews.{SeatView}

-- what a seat knows from when it was made: its table's numbers, its own number, how many objects each program has, and its own objects
abbrev pub seat_of : View → View
seat_of v = record v { hand = empty_handed; notes = [] }

-- the owner has nothing in hand
abbrev pub IsQuiet : View → Type 0
IsQuiet v = (v.hand.bringing ≡ None) × (v.hand.leaving ≡ None) × (v.hand.claimed ≡ None) × (v.hand.freed ≡ None)

-- the owner has only the berth of this object in hand, to bring it in
abbrev pub HasOnly : ℕ → View → Type 0
HasOnly o v = (v.hand.bringing ≡ Some o) × (v.hand.leaving ≡ None) × (v.hand.claimed ≡ None) × (v.hand.freed ≡ None)

-- the owner is moving this object out of the frame f, and has no frame in hand
abbrev pub MovesOut : ℕ → ℕ → Hand → Type 0
MovesOut o f x = (x.leaving ≡ Some o) × (x.source ≡ f) × (x.claimed ≡ None) × (x.freed ≡ None)

-- one call more was refused through the port, modulo 2^64, which a reliable store never does; which one is told
abbrev pub Refused : Type 0 → Refusals → Refusals → Type 0
Refused reliable before after = (after.count ≡ (before.count + 1) % 18446744073709551616) × IsSome after.last × (reliable → ⊥)

-- of a seat only the mover's hand changed, the berth that is moved out, its way to the store, the count of what was refused, and its log
abbrev pub HandOnly : {W C : Type 0} → SeatView W C → SeatView W C → Type 0
HandOnly s t = t ≡ record s { view = with_hand s.view t.view.hand; taken = t.taken; store = t.store; refusals = t.refusals; log = t.log }

-- the same object is brought in, under the same promise
abbrev pub BringsSame : Hand → Hand → Type 0
BringsSame x y = (y.bringing ≡ x.bringing) × (y.promised ≡ x.promised)

-- the same object is brought in, and nothing else is in hand
abbrev pub StillBrings : Hand → Hand → Type 0
StillBrings x y = BringsSame x y × (y.leaving ≡ None) × (y.claimed ≡ None) × (y.freed ≡ None)

-- only the cells copied since the mark differ, and the log
abbrev pub CopiesOnly : {W C : Type 0} → SeatView W C → SeatView W C → Type 0
CopiesOnly s t = t ≡ record s { view = with_hand s.view (record s.view.hand { copied = t.view.hand.copied }); log = t.log }

-- a frame of the table was claimed, or nothing changed
abbrev pub ClaimsOne : {W C : Type 0} → SeatView W C → SeatView W C → Option ℕ → Type 0
ClaimsOne s t None = t ≡ s
ClaimsOne s t (Some f) = (f < s.view.sizes.frames) × (t ≡ record s { view = with_hand s.view (claiming s.view.hand f); log = t.log })

-- the frame f was claimed for the object that is brought in, after others may have been moved out
pub record Claims {W C : Type 0} (s t : SeatView W C) (f : ℕ) : Type 0 where
  pub room : f < s.view.sizes.frames
  pub hand : HandOnly s t
  pub brings : BringsSame s.view.hand t.view.hand
  pub leaving : t.view.hand.leaving ≡ None
  pub claimed : t.view.hand.claimed ≡ Some f
  pub freed : t.view.hand.freed ≡ None
  pub refusals : t.refusals ≡ s.refusals

-- a frame was claimed, or none was, and the same object is brought in still
abbrev pub ClaimsOr : {W C : Type 0} → SeatView W C → SeatView W C → Option ℕ → Type 0
ClaimsOr s t None = HandOnly s t × StillBrings s.view.hand t.view.hand × (t.refusals ≡ s.refusals)
ClaimsOr s t (Some f) = Claims s t f

-- only the words filled since a claim differ, and the log
abbrev pub FillsOnly : {W C : Type 0} → SeatView W C → SeatView W C → Type 0
FillsOnly s t = t ≡ record s { view = with_hand s.view (record s.view.hand { filled = t.view.hand.filled }); log = t.log }

-- the first n cells were filled with these words
abbrev pub FilledBelow : List (ℕ × ℕ) → List ℕ → ℕ → Type 0
FilledBelow ps ws n = (i : ℕ) → i < n → seen ps i ≡ Some (listed ws i)

-- the object is in the frame f, the owner knows it, and has nothing in hand
pub record Brings (o : ℕ) (v w : View) (f : ℕ) : Type 0 where
  pub room : f < v.sizes.frames
  pub notes : w.notes ≡ (with_note v o (told (note v o) (Some f))).notes
  pub low : w.low ≡ v.low
  pub high : w.high ≡ v.high
  pub seat : seat_of w ≡ seat_of v
  pub sizes : w.sizes ≡ v.sizes
  pub quiet : IsQuiet w

-- the owner knows the same of its objects, and has nothing in hand
pub record GoesBack (v w : View) : Type 0 where
  pub notes : w.notes ≡ v.notes
  pub low : w.low ≡ v.low
  pub high : w.high ≡ v.high
  pub seat : seat_of w ≡ seat_of v
  pub sizes : w.sizes ≡ v.sizes
  pub quiet : IsQuiet w

-- the object was brought into a frame, or its owner gave it up as the store refused
abbrev pub BringsOr : {W C : Type 0} → Type 0 → ℕ → SeatView W C → SeatView W C → Option ℕ → Type 0
BringsOr reliable o s t (Some f) = Brings o s.view t.view f × (t.refusals ≡ s.refusals)
BringsOr reliable o s t None = GoesBack s.view t.view × Refused reliable s.refusals t.refusals

-- the owner closed one hold of the object, and has nothing in hand
pub record ClosesAgain (o : ℕ) (v w : View) : Type 0 where
  pub notes : w.notes ≡ (with_note v o (closed (note v o))).notes
  pub low : w.low ≡ v.low
  pub high : w.high ≡ v.high
  pub seat : seat_of w ≡ seat_of v
  pub sizes : w.sizes ≡ v.sizes
  pub quiet : IsQuiet w

-- the object was brought into a frame, or its owner closed its hold as the store refused
abbrev pub FetchesOr : {W C : Type 0} → Type 0 → ℕ → SeatView W C → SeatView W C → Option ℕ → Type 0
FetchesOr reliable o s t (Some f) = Brings o s.view t.view f × (t.refusals ≡ s.refusals)
FetchesOr reliable o s t None = ClosesAgain o s.view t.view × Refused reliable s.refusals t.refusals

-- The object is in the frame f with one hold more, and the owner has nothing in hand. Where the owner knew a frame, it is this one
pub record Takes (o : ℕ) (v w : View) (f : ℕ) : Type 0 where
  pub room : f < v.sizes.frames
  pub same : (g : ℕ) → (note v o).frame ≡ Some g → g ≡ f
  pub notes : w.notes ≡ (with_note v o (opened (note v o) (Some f))).notes
  pub low : w.low ≡ v.low
  pub high : w.high ≡ v.high
  pub seat : seat_of w ≡ seat_of v
  pub sizes : w.sizes ≡ v.sizes
  pub quiet : IsQuiet w

-- a hold of the object, whose frame the owner did not know, was opened and closed again
pub record GivesUp (o : ℕ) (v w : View) : Type 0 where
  pub unknown : (note v o).frame ≡ None
  pub notes : w.notes ≡ (with_note v o (closed (opened (note v o) None))).notes
  pub low : w.low ≡ v.low
  pub high : w.high ≡ v.high
  pub seat : seat_of w ≡ seat_of v
  pub sizes : w.sizes ≡ v.sizes
  pub quiet : IsQuiet w

-- the object was taken, or its owner gave it up as the store refused
abbrev pub TakesOr : {W C : Type 0} → Type 0 → ℕ → SeatView W C → SeatView W C → Option ℕ → Type 0
TakesOr reliable o s t (Some f) = Takes o s.view t.view f × (t.refusals ≡ s.refusals)
TakesOr reliable o s t None = GivesUp o s.view t.view × Refused reliable s.refusals t.refusals
