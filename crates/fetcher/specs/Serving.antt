-- What a fetcher does with a hint, and what it leaves of its seat.
use Rattle.std.specs.Prelude.{◌≡◌, ◌⊎◌, ℕ, ◌<◌, true, false, List, [], ◌∷◌, ◌++◌, None}
use Rattle.fetcher.specs.declared.served.Served.{Served}
use Rattle.fetcher.specs.declared.served.Served.TheVariants as S
use Rattle.object_lock.specs.SeatViews.{SeatView}
use Rattle.object_lock.specs.Seats.{Sizes, with_hand}
use Rattle.object_lock.specs.Logs.{AddsOne, Deed}
use Rattle.object_moves.specs.Deeds.{BringsWith, begins, claims}
use Rattle.object_moves.specs.Moving.{hand_arrived}
use Rattle.object_moves.specs.Taken.{Refused}
use Rattle.object_moves.specs.Ways.{Did}
use Rattle.pointer_word.specs.Calls.{Retreats}
use Rattle.pointer_word.specs.Hands.{Arrived, Began, Claimed, Hand, Move, Retreated, Unclaimed, bringing, claiming, retreating, unclaiming}

-- the hand of a mover that began the object o, was promised these words of its berth, and gave it up
abbrev pub hand_given_up : Hand → ℕ → List ℕ → Hand
hand_given_up x o ws = retreating (bringing x o ws)

-- the hand of one that claimed the frame f for the object besides, and gave up both
abbrev pub hand_released : Hand → ℕ → ℕ → List ℕ → Hand
hand_released x o f ws = retreating (unclaiming (claiming (bringing x o ws) f))

-- the hand of one that filled these cells of the frame, and arrived
abbrev pub hand_served : Hand → ℕ → ℕ → List ℕ → List (ℕ × ℕ) → Hand
hand_served x o f ws ps = hand_arrived (claiming (bringing x o ws) f) ps

-- what a fetcher did with an object that it began: it gave the object up, or the object and the frame that it had claimed; or it brought the object into that frame
pub data Service : Type 0 where
  GivesUp : (object : ℕ) → Service
  ReadsNothing : (object frame : ℕ) → Service
  BringsTo : (object frame : ℕ) → Service

-- what it did then by calls that had their effect, in order, but the fills
abbrev pub moves_for : Service → List Move
moves_for (GivesUp o) = Began o ∷ Retreated ∷ []
moves_for (ReadsNothing o f) = Began o ∷ Claimed f ∷ Unclaimed ∷ Retreated ∷ []
moves_for (BringsTo o f) = Began o ∷ Claimed f ∷ Arrived ∷ []

-- the same of services, one behind the other
abbrev pub moves_serving : List Service → List Move
moves_serving [] = []
moves_serving (x ∷ xs) = moves_for x ++ moves_serving xs

-- the log of the mover m grew by what it did so, step by step
abbrev pub ServiceLogged : Sizes → ℕ → Service → List Deed → List Deed → Type 0
ServiceLogged z m (GivesUp o) old new = AddsOne (old ++ begins m o 0 false ∷ []) new o (Retreats m o)
ServiceLogged z m (ReadsNothing o f) old new = BringsWith z m o f false [] false ((old ++ begins m o 0 false ∷ []) ++ claims z m o f ∷ []) new
ServiceLogged z m (BringsTo o f) old new = (ws : List ℕ) × BringsWith z m o f false ws true ((old ++ begins m o 0 false ∷ []) ++ claims z m o f ∷ []) new

-- the same of services, one behind the other
abbrev pub ServicesLogged : Sizes → ℕ → List Service → List Deed → List Deed → Type 0
ServicesLogged z m [] old new = new ≡ old
ServicesLogged z m (x ∷ xs) old new = (mid : List Deed) × ServiceLogged z m x old mid × ServicesLogged z m xs mid new

module _ {W C : Type 0} where
  -- the mover began the object o, claimed no frame, and gave the object up
  abbrev pub FindsNone : ℕ → SeatView W C → SeatView W C → Type 0
  FindsNone o s t = (ws : List ℕ) × (t ≡ record s { view = with_hand s.view (hand_given_up s.view.hand o ws); brought = None; log = t.log }) × ServiceLogged s.view.sizes s.view.number (GivesUp o) s.log t.log

  -- The mover brought the object o into a frame: it has arrived once more, and no call was refused
  abbrev pub BringsIn : ℕ → SeatView W C → SeatView W C → Type 0
  BringsIn o s t = (f : ℕ) × (ws : List ℕ) × (ps : List (ℕ × ℕ)) × (t ≡ record s { view = with_hand s.view (hand_served s.view.hand o f ws ps); brought = None; store = t.store; refusals = t.refusals; log = t.log }) × (t.refusals ≡ s.refusals) × ServiceLogged s.view.sizes s.view.number (BringsTo o f) s.log t.log

  -- The mover gave up the object o and a frame, since the store refused a get: one call more was refused, and it has not arrived
  abbrev pub FailsToGet : Type 0 → ℕ → SeatView W C → SeatView W C → Type 0
  FailsToGet reliable o s t = (f : ℕ) × (ws : List ℕ) × (t ≡ record s { view = with_hand s.view (hand_released s.view.hand o f ws); brought = None; store = t.store; refusals = t.refusals; log = t.log }) × Refused reliable s.refusals t.refusals × ServiceLogged s.view.sizes s.view.number (ReadsNothing o f) s.log t.log

  -- what became of a hint of the object o
  abbrev pub Serves : Type 0 → ℕ → SeatView W C → SeatView W C → Served → Type 0
  Serves reliable o s t S.Nothing = ⊥
  Serves reliable o s t S.Dropped = (t ≡ s) ⊎ FindsNone o s t
  Serves reliable o s t S.Brought = BringsIn o s t
  Serves reliable o s t S.Failed = FailsToGet reliable o s t

  -- there was no hint, and nothing changed; or a hint was served, which names one of so many objects
  abbrev pub ServesOne : Type 0 → ℕ → SeatView W C → SeatView W C → Served → Type 0
  ServesOne reliable objects s t S.Nothing = t ≡ s
  ServesOne reliable objects s t S.Dropped = (o : ℕ) × (o < objects) × Serves reliable o s t S.Dropped
  ServesOne reliable objects s t S.Brought = (o : ℕ) × (o < objects) × Serves reliable o s t S.Brought
  ServesOne reliable objects s t S.Failed = (o : ℕ) × (o < objects) × Serves reliable o s t S.Failed

-- of no service the store refused the get
abbrev pub AreRead : List Service → Type 0
AreRead [] = Unit {0}
AreRead (GivesUp o ∷ xs) = AreRead xs
AreRead (ReadsNothing o f ∷ xs) = ⊥
AreRead (BringsTo o f ∷ xs) = AreRead xs

-- all that the seat m has done is what it did with hints, one behind the other, as its log tells step by step; a reliable store refused it no get
abbrev pub HasServed : Type 0 → Sizes → ℕ → Did → Type 0
HasServed reliable z m did = (xs : List Service) × (did.past ≡ moves_serving xs) × ServicesLogged z m xs [] did.log × (reliable → AreRead xs)
