-- What a seat did by the calls of a list: a mover by those that had their effect, and the owner of an object with it.
use Rattle.std.specs.Prelude.{ℕ, ◌==◌, ◌&&◌, Bool, true, false, cond, List, [], ◌∷◌, ◌++◌}
use Rattle.pointer_word.specs.Words.{Place, Away, Here, Leaving}
use Rattle.pointer_word.specs.Hands.{Move, Began, Claimed, Arrived, Unclaimed, Retreated, Marked, Committed, Aborted, Left, Released, Use, Held, LetGo, ToWrite, Stored}
use Rattle.pointer_word.specs.Machine.{State}
use Rattle.pointer_word.specs.Calls.{Call, Opens, Closes, Clears, Stores, Begins, Claims, Fills, Arrives, Unclaims, Retreats, Marks, Copies, Puts, Commits, Aborts, Leaves, Releases, act}

-- a try did this, where it found the word that it asks for
abbrev pub done : Bool → Move → List Move
done true x = x ∷ []
done false x = []

-- a try to begin the object: it is away with this count of holds
abbrev pub begun : State → ℕ → ℕ → Place → List Move
begun s o c Away = done ((s.word o).count == c) (Began o)
begun s o c _ = []

-- a try to mark: the object is in this frame with no hold, not marked and not clean
abbrev pub marked : State → ℕ → ℕ → Place → List Move
marked s o f (Here g false) = done ((g == f) && ((s.word o).count == 0)) (Marked o f)
marked s o f _ = []

-- a try to commit: the object is still in this frame with no hold and marked by this mover
abbrev pub committed : State → ℕ → ℕ → ℕ → Place → List Move
committed s m o f (Leaving g j true) = done ((g == f) && ((j == m) && ((s.word o).count == 0))) (Committed f)
committed s m o f _ = []

-- a try to leave: the object is clean in this frame with no hold
abbrev pub left : State → ℕ → ℕ → Place → List Move
left s o f (Here g true) = done ((g == f) && ((s.word o).count == 0)) (Left f)
left s o f _ = []

-- what a mover did by a call at this state; what it fills and copies stands in its hand
abbrev pub deed : State → Call → List Move
deed s (Opens o) = []
deed s (Closes o) = []
deed s (Clears o) = []
deed s (Stores o f i v) = []
deed s (Begins m o c own) = begun s o c (s.word o).place
deed s (Claims m o f) = done (s.frame f == 0) (Claimed f)
deed s (Fills m f i v) = []
deed s (Arrives m o f own) = Arrived ∷ []
deed s (Unclaims m f) = Unclaimed ∷ []
deed s (Retreats m o) = Retreated ∷ []
deed s (Marks m o f) = marked s o f (s.word o).place
deed s (Copies m f i) = []
deed s (Puts m o x) = []
deed s (Commits m o f) = committed s m o f (s.word o).place
deed s (Aborts m o f) = Aborted ∷ []
deed s (Leaves m o f) = left s o f (s.word o).place
deed s (Releases m f) = Released ∷ []

-- the call is the mover's
abbrev pub is_by : ℕ → Call → Bool
is_by m (Opens o) = false
is_by m (Closes o) = false
is_by m (Clears o) = false
is_by m (Stores o f i v) = false
is_by m (Begins j o c own) = m == j
is_by m (Claims j o f) = m == j
is_by m (Fills j f i v) = m == j
is_by m (Arrives j o f own) = m == j
is_by m (Unclaims j f) = m == j
is_by m (Retreats j o) = m == j
is_by m (Marks j o f) = m == j
is_by m (Copies j f i) = m == j
is_by m (Puts j o x) = m == j
is_by m (Commits j o f) = m == j
is_by m (Aborts j o f) = m == j
is_by m (Leaves j o f) = m == j
is_by m (Releases j f) = m == j

-- what the mover did by these calls, in their order, from this state on
abbrev pub moves : ℕ → State → List Call → List Move
moves m s [] = []
moves m s (c ∷ cs) = cond (is_by m c) (deed s c) [] ++ moves m (act s c) cs

-- what the owner of the object o did with it by a call
abbrev pub use_of : ℕ → Call → List Use
use_of o (Opens p) = cond (o == p) (Held ∷ []) []
use_of o (Closes p) = cond (o == p) (LetGo ∷ []) []
use_of o (Clears p) = cond (o == p) (ToWrite ∷ []) []
use_of o (Stores p f i v) = cond (o == p) (Stored i v ∷ []) []
use_of o _ = []

-- what the owner of the object o did with it by these calls, in their order
abbrev pub uses : ℕ → List Call → List Use
uses o [] = []
uses o (c ∷ cs) = use_of o c ++ uses o cs
