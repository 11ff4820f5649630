-- What a mover did at frames where an object was to leave.
use Rattle.std.specs.Prelude.{◌≡◌, ℕ, ◌<◌, true, List, [], ◌∷◌, ◌++◌, length}
use Rattle.pointer_word.specs.Hands.{Move, Marked, Committed, Aborted, Left, Released}
use Rattle.object_lock.specs.Seats.{Sizes}
use Rattle.object_lock.specs.Logs.{Deed}
use Rattle.object_moves.specs.Deeds.{LeavesLogged, MovesLogged, marks}
use Rattle.object_moves.specs.declared.moved.Moved.{Moved}
use Rattle.object_moves.specs.declared.moved.Moved.TheVariants as M

-- what was done at a frame: an object was marked there, and this became of it; or one left that was clean
pub data Visit : Type 0 where
  MovesOut : (object frame : ℕ) → (became : Moved) → Visit
  LetsLeave : (frame : ℕ) → Visit

-- what the mover did then by calls that had their effect, in order, but the copies
abbrev pub moves_at : Visit → List Move
moves_at (MovesOut o f M.Left) = Marked o f ∷ Committed f ∷ Released ∷ []
moves_at (MovesOut o f M.Stayed) = Marked o f ∷ Aborted ∷ []
moves_at (MovesOut o f M.Failed) = Marked o f ∷ Aborted ∷ []
moves_at (LetsLeave f) = Left f ∷ Released ∷ []

-- the same of visits, one behind the other
abbrev pub moves_in : List Visit → List Move
moves_in [] = []
moves_in (x ∷ xs) = moves_at x ++ moves_in xs

-- at none of the visits the store refused the put
abbrev pub AreServed : List Visit → Type 0
AreServed [] = Unit {0}
AreServed (MovesOut o f M.Left ∷ xs) = AreServed xs
AreServed (MovesOut o f M.Stayed ∷ xs) = AreServed xs
AreServed (MovesOut o f M.Failed ∷ xs) = ⊥
AreServed (LetsLeave f ∷ xs) = AreServed xs

-- the log of the mover m of a table of these sizes grew by what it did at the visit, step by step
abbrev pub VisitLogged : Sizes → ℕ → Visit → List Deed → List Deed → Type 0
VisitLogged z m (MovesOut o f r) old new = (o < z.objects) × (f < z.frames) × (ws : List ℕ) × (length ws ≡ z.cells) × MovesLogged z m o f ws r (old ++ marks m o f ∷ []) new
VisitLogged z m (LetsLeave f) old new = (o : ℕ) × (o < z.objects) × (f < z.frames) × LeavesLogged z m o f true old new

-- the same of visits, one behind the other
abbrev pub VisitsLogged : Sizes → ℕ → List Visit → List Deed → List Deed → Type 0
VisitsLogged z m [] old new = new ≡ old
VisitsLogged z m (x ∷ xs) old new = (mid : List Deed) × VisitLogged z m x old mid × VisitsLogged z m xs mid new
