-- What an owner did by which it came to hold an object, or gave it up: all of its moves that had their effect, in order, but fills and copies; and the steps of its log.
use Rattle.std.specs.Prelude.{◌≡◌, ℕ, suc, true, false, List, [], ◌∷◌, ◌++◌, Option, Some, None}
use Rattle.pointer_word.specs.Hands.{Move, Began, Claimed, Arrived, Unclaimed, Retreated, Marked, Aborted}
use Rattle.pointer_word.specs.Calls.{Begins, Closes, Opens, Retreats}
use Rattle.pointer_word.specs.Words.{Word, framed}
use Rattle.object_lock.specs.Plays.{Found as IsFound, FoundWord}
use Rattle.object_lock.specs.Seats.{Sizes}
use Rattle.object_lock.specs.SeatViews.{SeatView}
use Rattle.object_lock.specs.Logs.{Adds, AddsOne, Deed, deed}
use Rattle.object_moves.specs.declared.moved.Moved.TheVariants as M
use Rattle.object_moves.specs.Deeds.{BringsWith, begins, claims}
use Rattle.object_moves.specs.Visits.{AreServed, MovesOut, Visit, VisitLogged, VisitsLogged, moves_in}

-- what a seat did: its moves that had their effect, as its hand tells them, and the steps of its log
pub record Did : Type 0 where
  pub past : List Move
  pub log : List Deed

-- what the seat of this view did
abbrev pub did_of : {W C : Type 0} → SeatView W C → Did
did_of s = record { past = s.view.hand.past; log = s.log }

-- How an owner went on that had begun an object. By these visits it made room. Then it claimed a frame and brought the object in; or the store refused the get, and it gave up
-- both; or the store refused the put of another object in a frame, and it gave up the object
pub data Course : Type 0 where
  BroughtIn : (visits : List Visit) → (frame : ℕ) → Course
  NotRead : (visits : List Visit) → (frame : ℕ) → Course
  NotWritten : (visits : List Visit) → (object frame : ℕ) → Course

-- what it did then
abbrev pub moves_along : Course → List Move
moves_along (BroughtIn vs f) = moves_in vs ++ Claimed f ∷ Arrived ∷ []
moves_along (NotRead vs f) = moves_in vs ++ Claimed f ∷ Unclaimed ∷ Retreated ∷ []
moves_along (NotWritten vs o f) = moves_in vs ++ Marked o f ∷ Aborted ∷ Retreated ∷ []

-- the object is in this frame then, or was given up; no put was refused but the last
abbrev pub Leads : Course → Option ℕ → Type 0
Leads (BroughtIn vs f) (Some g) = AreServed vs × (g ≡ f)
Leads (BroughtIn vs f) None = ⊥
Leads (NotRead vs f) (Some g) = ⊥
Leads (NotRead vs f) None = AreServed vs
Leads (NotWritten vs o f) (Some g) = ⊥
Leads (NotWritten vs o f) None = AreServed vs

-- the log of the seat m, which had begun the object o, grew by such a course, step by step
abbrev pub CourseLogged : Sizes → ℕ → ℕ → Course → List Deed → List Deed → Type 0
CourseLogged z m o (BroughtIn vs f) old new = (mid : List Deed) × (ws : List ℕ) × VisitsLogged z m vs old mid × BringsWith z m o f true ws true (mid ++ claims z m o f ∷ []) new
CourseLogged z m o (NotRead vs f) old new = (mid : List Deed) × VisitsLogged z m vs old mid × BringsWith z m o f true [] false (mid ++ claims z m o f ∷ []) new
CourseLogged z m o (NotWritten vs p f) old new = (mid last : List Deed) × VisitsLogged z m vs old mid × VisitLogged z m (MovesOut p f M.Failed) mid last × AddsOne last new o (Retreats m o)

-- How an owner that had opened a hold came to the object: it found it in a frame, where it was or another mover had brought it; or it began it
pub data Way : Type 0 where
  Found : Way
  Begun : Course → Way

-- what it did then, of the object o
abbrev pub moves_on : ℕ → Way → List Move
moves_on o Found = []
moves_on o (Begun c) = Began o ∷ moves_along c

-- the object is in this frame then, or was given up
abbrev pub LeadsTo : Way → Option ℕ → Type 0
LeadsTo Found (Some f) = Unit {0}
LeadsTo Found None = ⊥
LeadsTo (Begun c) r = Leads c r

-- the log of the seat m, which has c holds of its object o, grew by such a way, step by step: it found the object in this frame, or began it
abbrev pub WayLogged : Sizes → ℕ → ℕ → ℕ → Option ℕ → Way → List Deed → List Deed → Type 0
WayLogged z m o c (Some f) Found old new = Adds old new o (Begins m o c true) (FoundWord z (λ w. framed w.place ≡ Some f))
WayLogged z m o c None Found old new = ⊥
WayLogged z m o c r (Begun k) old new = CourseLogged z m o k (old ++ begins m o c true ∷ []) new

-- the same, and where it gave the object up it closed a hold of it
abbrev pub WayOrClosed : Sizes → ℕ → ℕ → ℕ → Option ℕ → Way → List Deed → List Deed → Type 0
WayOrClosed z m o c (Some f) way old new = WayLogged z m o c (Some f) way old new
WayOrClosed z m o c None way old new = (mid : List Deed) × WayLogged z m o c None way old mid × AddsOne mid new o (Closes o)

-- behind a hold that was opened, and which found the object in this frame, or in none
abbrev pub BehindOpen : Sizes → ℕ → ℕ → ℕ → Option ℕ → Option ℕ → Way → List Deed → List Deed → Type 0
BehindOpen z m o c (Some f) r way old new = (r ≡ Some f) × (way ≡ Found) × (new ≡ old)
BehindOpen z m o c None r way old new = WayOrClosed z m o (suc c) r way old new

-- the log of the seat m, which had c holds of its object o, grew by one that it opened, and by such a way where the object was in no frame
abbrev pub TakeLogged : Sizes → ℕ → ℕ → ℕ → Option ℕ → Way → List Deed → List Deed → Type 0
TakeLogged z m o c r way old new = (n : ℕ) × (w : Word) × IsFound z w n × (w.count ≡ c) × BehindOpen z m o c (framed w.place) r way (old ++ deed o n (Opens o) ∷ []) new

-- by such a way the seat came to the object o, or gave it up; what it did had come to what it had done before, as its log tells step by step
pub record Comes (Logs : Way → List Deed → List Deed → Type 0) (o : ℕ) (r : Option ℕ) (before after : Did) : Type 0 where
  pub way : Way
  pub leads : LeadsTo way r
  pub did : after.past ≡ before.past ++ moves_on o way
  pub logged : Logs way before.log after.log

-- the same of its moves alone
abbrev pub ComesByMoves : ℕ → Option ℕ → List Move → List Move → Type 0
ComesByMoves o r before after = Comes (λ _ _ _. Unit {0}) o r (record { past = before; log = [] }) (record { past = after; log = [] })

-- by such a course the seat m of such a table brought the object o in that it had begun, or gave it up
pub record GoesOn (z : Sizes) (m o : ℕ) (r : Option ℕ) (before after : Did) : Type 0 where
  pub course : Course
  pub leads : Leads course r
  pub did : after.past ≡ before.past ++ moves_along course
  pub logged : CourseLogged z m o course before.log after.log

-- the seat m made room by some visits
pub record MakesRoom (z : Sizes) (m : ℕ) (before after : Did) : Type 0 where
  pub visits : List Visit
  pub served : AreServed visits
  pub did : after.past ≡ before.past ++ moves_in visits
  pub logged : VisitsLogged z m visits before.log after.log

-- and then it claimed this frame for the object o
pub record MakesRoomAt (z : Sizes) (m o f : ℕ) (before after : Did) : Type 0 where
  pub visits : List Visit
  pub served : AreServed visits
  pub did : after.past ≡ before.past ++ (moves_in visits ++ Claimed f ∷ [])
  pub logged : (mid : List Deed) × VisitsLogged z m visits before.log mid × (after.log ≡ mid ++ claims z m o f ∷ [])

-- and then it claimed the frame for the object o, or none
abbrev pub MakesRoomFor : Sizes → ℕ → ℕ → Option ℕ → Did → Did → Type 0
MakesRoomFor z m o None before after = MakesRoom z m before after
MakesRoomFor z m o (Some f) before after = MakesRoomAt z m o f before after

-- the seat m made room by some visits, until the store refused the put of an object
pub record LacksRoom (z : Sizes) (m : ℕ) (before after : Did) : Type 0 where
  pub visits : List Visit
  pub served : AreServed visits
  pub object : ℕ
  pub frame : ℕ
  pub did : after.past ≡ before.past ++ (moves_in visits ++ Marked object frame ∷ Aborted ∷ [])
  pub logged : (mid : List Deed) × VisitsLogged z m visits before.log mid × VisitLogged z m (MovesOut object frame M.Failed) mid after.log
