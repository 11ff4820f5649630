-- What a mover does step by step, as its log has it.
use Rattle.std.specs.Prelude.{◌≡◌, ◌≢◌, ℕ, zero, suc, ◌<◌, Bool, true, false, List, [], ◌∷◌, ◌++◌, length}
use Rattle.pointer_word.specs.Words.{Here, Leaving, face}
use Rattle.pointer_word.specs.Hands.{listed}
use Rattle.pointer_word.specs.Machine.{Kept}
use Rattle.pointer_word.specs.Calls.{Aborts, Arrives, Begins, Claims, Commits, Copies, Fills, Leaves, Marks, Puts, Releases, Retreats, Unclaims}
use Rattle.object_lock.specs.Seats.{Sizes, cell_word, frame_word}
use Rattle.object_lock.specs.Logs.{Deed, deed}
use Rattle.object_moves.specs.declared.moved.Moved.{Moved}
use Rattle.object_moves.specs.declared.moved.Moved.TheVariants as M

-- the mover m fills the first k cells of the frame f with these words, and finds these numbers there
abbrev pub fills : Sizes → ℕ → ℕ → List ℕ → (ℕ → ℕ) → ℕ → List Deed
fills z m f ws found zero = []
fills z m f ws found (suc k) = fills z m f ws found k ++ deed (cell_word z f k) (found k) (Fills m f k (listed ws k)) ∷ []

-- it copies the first k cells, which are these
abbrev pub copies : Sizes → ℕ → ℕ → List ℕ → ℕ → List Deed
copies z m f ws zero = []
copies z m f ws (suc k) = copies z m f ws k ++ deed (cell_word z f k) (listed ws k) (Copies m f k) ∷ []

-- it puts these words, and tries to commit the object o out of the frame f, whose word is n
abbrev pub tries : ℕ → ℕ → ℕ → List ℕ → ℕ → Deed
tries m o f ws n = record { word = o; found = n; calls = Puts m o (Kept ws) ∷ Commits m o f ∷ [] }

-- the log grew by the fills of the first k cells
abbrev pub AddsFills : Sizes → ℕ → ℕ → List ℕ → ℕ → List Deed → List Deed → Type 0
AddsFills z m f ws k old new = (found : ℕ → ℕ) × (new ≡ old ++ fills z m f ws found k)

-- it freed the frame f, out of which it had moved an object, and found this number there
abbrev pub releases : Sizes → ℕ → ℕ → ℕ → Deed
releases z m f n = deed (frame_word z f) n (Releases m f)

-- it gave up the object o that it was moving out of the frame f
abbrev pub aborts : ℕ → ℕ → ℕ → ℕ → Deed
aborts m o f n = deed o n (Aborts m o f)

-- it gave up the object o that it was bringing in
abbrev pub retreats : ℕ → ℕ → ℕ → Deed
retreats m o n = deed o n (Retreats m o)

-- it gave up the frame f that it had claimed
abbrev pub unclaims : Sizes → ℕ → ℕ → ℕ → Deed
unclaims z m f n = deed (frame_word z f) n (Unclaims m f)

-- it arrived with the object o in the frame f; as its owner with a hold, or not
abbrev pub arrives : ℕ → ℕ → ℕ → Bool → ℕ → Deed
arrives m o f own n = deed o n (Arrives m o f own)

-- it began the object o, of which it had this count of holds as its owner, or none and no word of it
abbrev pub begins : ℕ → ℕ → ℕ → Bool → Deed
begins m o c own = deed o c (Begins m o c own)

-- it claimed the frame f, which was free, for the object o
abbrev pub claims : Sizes → ℕ → ℕ → ℕ → Deed
claims z m o f = deed (frame_word z f) 0 (Claims m o f)

-- it marked the object o in the frame f, where that was not clean and had no hold
abbrev pub marks : ℕ → ℕ → ℕ → Deed
marks m o f = deed o (face (Here f false) 0) (Marks m o f)

-- the number of a word by which a mover has marked an object in the frame f
abbrev pub marked : ℕ → ℕ → ℕ
marked m f = face (Leaving f m true) 0

-- with these words put, an object left its frame, which is free; or stayed, as its word was another
abbrev pub GoesLogged : Sizes → ℕ → ℕ → ℕ → List ℕ → Moved → List Deed → List Deed → Type 0
GoesLogged z m o f ws M.Left old new = (n : ℕ) × (new ≡ old ++ tries m o f ws (marked m f) ∷ releases z m f n ∷ [])
GoesLogged z m o f ws M.Stayed old new = (k n : ℕ) × (k ≢ marked m f) × (new ≡ old ++ tries m o f ws k ∷ aborts m o f n ∷ [])
GoesLogged z m o f ws M.Failed old new = ⊥

-- the cells of a marked object were copied, which are these words, and it left its frame, stayed, or the put of the words was refused
abbrev pub MovesLogged : Sizes → ℕ → ℕ → ℕ → List ℕ → Moved → List Deed → List Deed → Type 0
MovesLogged z m o f ws M.Left old new = (n : ℕ) × (new ≡ old ++ (copies z m f ws z.cells ++ tries m o f ws (marked m f) ∷ releases z m f n ∷ []))
MovesLogged z m o f ws M.Stayed old new = (k n : ℕ) × (k ≢ marked m f) × (new ≡ old ++ (copies z m f ws z.cells ++ tries m o f ws k ∷ aborts m o f n ∷ []))
MovesLogged z m o f ws M.Failed old new = (n : ℕ) × (new ≡ old ++ (copies z m f ws z.cells ++ aborts m o f n ∷ []))

-- a frame was filled with these words, and the object arrived; or both were given up
abbrev pub BringsWith : Sizes → ℕ → ℕ → ℕ → Bool → List ℕ → Bool → List Deed → List Deed → Type 0
BringsWith z m o f own ws true old new = (length ws ≡ z.cells) × (found : ℕ → ℕ) × (n : ℕ) × (new ≡ old ++ (fills z m f ws found z.cells ++ arrives m o f own n ∷ []))
BringsWith z m o f own ws false old new = (n k : ℕ) × (new ≡ old ++ unclaims z m f n ∷ retreats m o k ∷ [])

-- the same with some words, which are those that were promised where the store is honest and the object arrived
abbrev pub BringsLogged : Type 0 → Sizes → ℕ → ℕ → ℕ → Bool → List ℕ → Bool → List Deed → List Deed → Type 0
BringsLogged honest z m o f own promised r old new =
    (ws : List ℕ) × (r ≡ true → honest → (i : ℕ) → i < z.cells → listed ws i ≡ listed promised i) × BringsWith z m o f own ws r old new

-- an object that was clean left the frame f, which is free; or nothing was done
abbrev pub LeavesLogged : Sizes → ℕ → ℕ → ℕ → Bool → List Deed → List Deed → Type 0
LeavesLogged z m o f true old new = (n : ℕ) × (new ≡ old ++ deed o (face (Here f true) 0) (Leaves m o f) ∷ releases z m f n ∷ [])
LeavesLogged z m o f false old new = new ≡ old
