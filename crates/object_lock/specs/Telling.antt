-- What the calls answer, and what they leave of the seat that made them.
use Rattle.std.specs.Prelude.{◌≡◌, ℕ, zero, suc, ◌<◌, ◌==◌, cond, List, Bool, true, false, Option, Some, None}
use Rattle.pointer_word.specs.Words.{Place, Away, Coming, Here, Leaving, Word}
use Rattle.pointer_word.specs.Hands.{seen, listed, opened, told, bringing, claiming, marking, committing, leaving}
use Rattle.remote_store.specs.declared.berth.Berth.{Berth}
use Rattle.object_lock.specs.declared.answers.Held.{Held}
use Rattle.object_lock.specs.declared.answers.Held.TheVariants as H
use Rattle.object_lock.specs.declared.answers.Begin.{Begin}
use Rattle.object_lock.specs.declared.answers.Begin.TheVariants as B
use Rattle.object_lock.specs.Seats.{note, with_note, with_hand}
use Rattle.object_lock.specs.SeatViews.{SeatView}
use Rattle.object_lock.specs.Kept.{berth_keeps}

-- where an object is, as an answer
abbrev pub held : Place → Held
held Away = H.Away
held (Coming m) = H.Coming
held (Here f k) = H.Here f
held (Leaving f m k) = H.Here f

-- the answer where an object was not begun
abbrev pub begun : Place → Begin
begun Away = B.Busy
begun (Coming m) = B.Busy
begun (Here f k) = B.Here f
begun (Leaving f m k) = B.Here f

-- the answer of a try to begin with this count: the object is begun exactly where its word is that of an object away with this count
abbrev pub tried_at : ℕ → ℕ → Place → Begin
tried_at c n Away = cond (n == c) B.Taken B.Busy
tried_at c n (Coming m) = begun (Coming m)
tried_at c n (Here f k) = begun (Here f k)
tried_at c n (Leaving f m k) = begun (Leaving f m k)

-- the same of a word
abbrev pub tried : ℕ → Word → Begin
tried c w = tried_at c w.count w.place

-- A hold of the object o was opened: its note has one hold more, and the frame that was told. A frame that the seat knew is told again
abbrev pub Opened : {W C : Type 0} → ℕ → SeatView W C → SeatView W C → Held → Type 0
Opened o old new (H.Here f) = (f < old.view.sizes.frames) × ((g : ℕ) → (note old.view o).frame ≡ Some g → g ≡ f) × (new ≡ record old { view = with_note old.view o (opened (note old.view o) (Some f)); log = new.log })
Opened o old new H.Away = ((note old.view o).frame ≡ None) × (new ≡ record old { view = with_note old.view o (opened (note old.view o) None); log = new.log })
Opened o old new H.Coming = ((note old.view o).frame ≡ None) × (new ≡ record old { view = with_note old.view o (opened (note old.view o) None); log = new.log })

module _ {W C : Type 0} (fits : C → ℕ → Type 0) (content : C → Option (List ℕ)) where
  -- The object o was begun: its berth is in hand, and what that keeps is promised. Or it is in a frame, which is noted. Or nothing changed
  abbrev pub Begun : ℕ → SeatView W C → SeatView W C → Begin → Type 0
  Begun o old new B.Taken = (b : Berth C) × (ws : List ℕ) × berth_keeps fits content old.view.sizes.cells b o ws × (new ≡ record old { view = with_hand old.view (bringing old.view.hand o ws); brought = Some b; log = new.log })
  Begun o old new (B.Here f) = (f < old.view.sizes.frames) × ((g : ℕ) → (note old.view o).frame ≡ Some g → g ≡ f) × (new ≡ record old { view = with_note old.view o (told (note old.view o) (Some f)); log = new.log })
  Begun o old new B.Busy = new ≡ old

-- the frame f was claimed, or nothing changed
abbrev pub Claimed : {W C : Type 0} → ℕ → SeatView W C → SeatView W C → Bool → Type 0
Claimed f old new true = new ≡ record old { view = with_hand old.view (claiming old.view.hand f); log = new.log }
Claimed f old new false = new ≡ old

-- the object that a frame's word names, if it names one
abbrev pub named : ℕ → Option ℕ
named zero = None
named (suc o) = Some o

-- A fetcher began the object o: its berth is in hand, and what that keeps is promised. Else nothing changed
abbrev pub Fetched : {W C : Type 0} → (C → ℕ → Type 0) → (C → Option (List ℕ)) → ℕ → SeatView W C → SeatView W C → Begin → Type 0
Fetched {W} {C} fits content o old new B.Taken = (b : Berth C) × (ws : List ℕ) × berth_keeps fits content old.view.sizes.cells b o ws × (new ≡ record old { view = with_hand old.view (bringing old.view.hand o ws); brought = Some b; log = new.log })
Fetched fits content o old new (B.Here f) = (f < old.view.sizes.frames) × (new ≡ old)
Fetched fits content o old new B.Busy = new ≡ old

-- the object o was marked in the frame f, and its berth is in hand, or nothing changed
abbrev pub Marked : {W C : Type 0} → ℕ → ℕ → SeatView W C → SeatView W C → Bool → Type 0
Marked {W} {C} o f old new true = (b : Berth C) × (new ≡ record old { view = with_hand old.view (marking old.view.hand o f); taken = Some b; log = new.log })
Marked o f old new false = new ≡ old

-- the object that was moved out is away, and its frame freed, or nothing changed but that the seat keeps its try
abbrev pub Committed : {W C : Type 0} → SeatView W C → SeatView W C → Bool → Type 0
Committed old new true = new ≡ record old { view = with_hand old.view (committing old.view.hand old.view.hand.source); taken = None; log = new.log }
Committed old new false = new ≡ record old { log = new.log }

-- the object that was clean in the frame f is away, and the frame freed, or nothing changed
abbrev pub Left : {W C : Type 0} → ℕ → SeatView W C → SeatView W C → Bool → Type 0
Left f old new true = new ≡ record old { view = with_hand old.view (leaving old.view.hand f); log = new.log }
Left f old new false = new ≡ old

-- the berth of the object o that is moved out keeps the n cells that were copied
abbrev pub HasPut : {W C : Type 0} → (C → ℕ → Type 0) → (C → Option (List ℕ)) → ℕ → ℕ → SeatView W C → Type 0
HasPut {W} {C} fits content n o s = (b : Berth C) × (ws : List ℕ) × (s.taken ≡ Some b) × berth_keeps fits content n b o ws × ((i : ℕ) → i < n → seen s.view.hand.copied i ≡ Some (listed ws i))
