-- What each kind of step tells its seat, and what the seat keeps of it.
use Rattle.std.specs.Prelude.{◌≡◌, ℕ, ◌==◌, not, ◌<◌, true, false, ◌++◌, List, [], ◌∷◌, length, Some}
use Rattle.atomic_table.specs.Table.{Step, Me}
use Rattle.pointer_word.specs.Words.{Here, face}
use Rattle.pointer_word.specs.Hands.{or_zero, seen, listed}
use Rattle.pointer_word.specs.Machine.{Kept}
use Rattle.pointer_word.specs.Calls.{Call, Opens, Closes, Clears, Stores, Begins, Claims, Fills, Arrives, Unclaims, Retreats, Marks, Copies, Puts, Commits, Aborts, Leaves, Releases}
use Rattle.object_lock.specs.Seats.{View}
use Rattle.object_lock.specs.Logs.{Seated, bare, kept_of}
use Rattle.object_lock.specs.Plays.{mine, frame_at, index_at, IsCell, Holds, IsUnheld, told_open, told_close, told_clear, told_load, told_store, told_peek, told_look, told_begin_any, told_claim, told_give, told_fill, told_arrive_any, told_mark, told_copy, told_commit, told_leave, told_abort, told_retreat}

-- the log grows by what is kept of a step that made these calls and found n
abbrev pub Grows : {S : Type 0} → (View → List Call) → Step S → Me S Seated → ℕ → Me S Seated → Type 0
Grows made st m n m' = m'.0.log ≡ m.0.log ++ kept_of (record { word = st.word; found = n; calls = made m.0.view })

-- the same of a step that is told nothing of what it found
abbrev pub Grew : {S : Type 0} → (View → List Call) → Step S → Me S Seated → Me S Seated → Type 0
Grew made st m m' = (n : ℕ) × Grows made st m n m'

module _ {S : Type 0} where
  -- what a step tells of the seat's view, and that its log grows by these calls
  abbrev pub Logged : (Step S → Me S View → ℕ → Me S View → Type 0) → (Step S → View → List Call) → Step S → Me S Seated → ℕ → Me S Seated → Type 0
  Logged told made st m n m' = told st (bare m) n (bare m') × Grows (made st) st m n m'

  -- what a look tells of the seat's view; its log stays
  abbrev pub Looked : (Step S → Me S View → ℕ → Me S View → Type 0) → Step S → Me S Seated → ℕ → Me S Seated → Type 0
  Looked told st m n m' = told st (bare m) n (bare m') × (m'.0.log ≡ m.0.log)

module _ {S : Type 0} (honest : Type 0) where
  -- a hold is opened
  abbrev pub logs_open : Step S → Me S Seated → ℕ → Me S Seated → Type 0
  logs_open = Logged (told_open honest) (λ st v. Opens st.word ∷ [])

  -- a hold is closed
  abbrev pub logs_close : Step S → Me S Seated → ℕ → Me S Seated → Type 0
  logs_close = Logged (told_close honest) (λ st v. Closes st.word ∷ [])

  -- a hold begins to write
  abbrev pub logs_clear : Step S → Me S Seated → ℕ → Me S Seated → Type 0
  logs_clear = Logged (told_clear honest) (λ st v. Clears st.word ∷ [])

  -- a load, which is a look
  abbrev pub logs_load : Step S → Me S Seated → ℕ → Me S Seated → Type 0
  logs_load = Looked (told_load honest)

  -- a look at an object's word
  abbrev pub logs_peek : Step S → Me S Seated → ℕ → Me S Seated → Type 0
  logs_peek = Looked (told_peek honest)

  -- a look at a frame's word
  abbrev pub logs_look : Step S → Me S Seated → ℕ → Me S Seated → Type 0
  logs_look = Looked (told_look honest)

  -- a store in a cell of an object of its own
  abbrev pub logs_store : Step S → Me S Seated → ℕ → Me S Seated → Type 0
  logs_store st m n m' = told_store honest st (bare m) n (bare m') × ((o f i : ℕ) → IsCell m.0.view st.word o f i → Grew (λ v. Stores o f i st.first ∷ []) st m m')

  -- a try to claim a frame
  abbrev pub logs_claim : Step S → Me S Seated → ℕ → Me S Seated → Type 0
  logs_claim = Logged (told_claim honest) (λ st v. Claims v.number (or_zero v.hand.bringing) (frame_at v st.word) ∷ [])

  -- a cell of the claimed frame is filled
  abbrev pub logs_fill : Step S → Me S Seated → ℕ → Me S Seated → Type 0
  logs_fill st m n m' = told_fill honest st (bare m) n (bare m') × Grew (λ v. Fills v.number (mine v) (index_at v (mine v) st.word) st.first ∷ []) st m m'

  -- a cell of the object that is moved out is copied
  abbrev pub logs_copy : Step S → Me S Seated → ℕ → Me S Seated → Type 0
  logs_copy = Logged (told_copy honest) (λ st v. Copies v.number v.hand.source (index_at v v.hand.source st.word) ∷ [])

  -- a frame that was claimed, or freed, is given up
  abbrev pub logs_give : Step S → Me S Seated → ℕ → Me S Seated → Type 0
  logs_give st m n m' = told_give honest st (bare m) n (bare m')
      × (m.0.view.hand.claimed ≡ Some (frame_at m.0.view st.word) → Grew (λ v. Unclaims v.number (frame_at v st.word) ∷ []) st m m')
      × (m.0.view.hand.freed ≡ Some (frame_at m.0.view st.word) → Grew (λ v. Releases v.number (frame_at v st.word) ∷ []) st m m')

  -- an object that was moved out is given up
  abbrev pub logs_abort : Step S → Me S Seated → ℕ → Me S Seated → Type 0
  logs_abort = Logged (told_abort honest) (λ st v. Aborts v.number st.word v.hand.source ∷ [])

  -- an object that was begun is given up
  abbrev pub logs_retreat : Step S → Me S Seated → ℕ → Me S Seated → Type 0
  logs_retreat = Logged (told_retreat honest) (λ st v. Retreats v.number st.word ∷ [])

  -- a try to have a clean object leave a frame
  abbrev pub logs_leave : Step S → Me S Seated → ℕ → Me S Seated → Type 0
  logs_leave st m n m' = told_leave honest st (bare m) n (bare m') × ((f : ℕ) × (st.first ≡ face (Here f true) 0) × Grows (λ v. Leaves v.number st.word f ∷ []) st m n m')

  -- a try to commit; what was put is what was copied, a piece of this many cells
  abbrev pub logs_commit : ℕ → Step S → Me S Seated → ℕ → Me S Seated → Type 0
  logs_commit cells st m n m' = told_commit honest st (bare m) n (bare m')
      × ((ws : List ℕ) × (length ws ≡ cells) × ((i : ℕ) → i < cells → seen m.0.view.hand.copied i ≡ Some (listed ws i)) × Grows (λ v. Puts v.number st.word (Kept ws) ∷ Commits v.number st.word v.hand.source ∷ []) st m n m')

module _ {S : Type 0} (honest : Type 0) (kept : S → ℕ → List ℕ → Type 0) (there : S → Type 0) where
  -- a try to begin, by the object's owner where a count of holds is given
  abbrev pub logs_begin_any : Step S → Me S Seated → ℕ → Me S Seated → Type 0
  logs_begin_any = Logged (told_begin_any honest kept there) (λ st v. Begins v.number st.word st.first (not (st.first == 0)) ∷ [])

  -- an object arrives, which its mover holds, or has no hold of
  abbrev pub logs_arrive_any : Step S → Me S Seated → ℕ → Me S Seated → Type 0
  logs_arrive_any st m n m' = told_arrive_any honest kept there st (bare m) n (bare m')
      × (Holds m.0.view st.word → Grows (λ v. Arrives v.number st.word (mine v) true ∷ []) st m n m')
      × (IsUnheld m.0.view st.word → Grows (λ v. Arrives v.number st.word (mine v) false ∷ []) st m n m')

  -- a try to mark an object in a frame
  abbrev pub logs_mark : Step S → Me S Seated → ℕ → Me S Seated → Type 0
  logs_mark st m n m' = told_mark honest kept there st (bare m) n (bare m') × ((f : ℕ) × (st.first ≡ face (Here f false) 0) × Grows (λ v. Marks v.number st.word f ∷ []) st m n m')
