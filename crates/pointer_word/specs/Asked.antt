-- What each call asks of its caller, which knows it from its own view and the berths in its hands.
use Rattle.std.specs.Prelude.{◌≡◌, ℕ, ◌<◌, true, false, Some, None}
use Rattle.pointer_word.specs.Hands.{Hand}
use Rattle.pointer_word.specs.Machine.{State}
use Rattle.pointer_word.specs.Calls.{Call, Opens, Closes, Clears, Stores, Begins, Claims, Fills, Arrives, Unclaims, Retreats, Marks, Copies, Puts, Commits, Aborts, Leaves, Releases, May}

-- a mover has no frame in hand, claimed or freed
abbrev pub HasNoFrame : Hand → Type 0
HasNoFrame x = (x.claimed ≡ None) × (x.freed ≡ None)

-- a mover has neither a berth nor a frame in hand
abbrev pub HasNothing : Hand → Type 0
HasNothing x = (x.bringing ≡ None) × (x.leaving ≡ None) × HasNoFrame x

-- a mover has no frame in hand, and no berth but that of an object of its own that it is bringing in
abbrev pub HasOnlyOwn : (ℕ → ℕ) → ℕ → Hand → Type 0
HasOnlyOwn owner m x = (x.leaving ≡ None) × HasNoFrame x × ((p : ℕ) → x.bringing ≡ Some p → owner p ≡ m)

-- The conditions on the mover a that makes the call, where owner tells whose each object is and a piece has n cells: an owner names its own
-- objects, a mover names itself and what it has in hand
abbrev pub Asked : (ℕ → ℕ) → Type 0 → ℕ → State → ℕ → Call → Type 0
Asked owner h n s a (Opens o) = (owner o ≡ a) × ((s.note o).count < 4)
Asked owner h n s a (Closes o) = (owner o ≡ a) × (0 < (s.note o).count)
Asked owner h n s a (Clears o) = (owner o ≡ a) × (0 < (s.note o).count)
Asked owner h n s a (Stores o f i v) = (owner o ≡ a) × (i < n) × May h n s (Stores o f i v)
Asked owner h n s a (Begins m o c own) = (m ≡ a) × HasNothing (s.hand m) × (own ≡ true → (owner o ≡ a) × (0 < (s.note o).count) × (c ≡ (s.note o).count)) × (own ≡ false → c ≡ 0)
Asked owner h n s a (Claims m o f) = (m ≡ a) × ((s.hand m).bringing ≡ Some o) × ((s.hand m).leaving ≡ None) × HasNoFrame (s.hand m)
Asked owner h n s a (Fills m f i v) = (m ≡ a) × (i < n) × May h n s (Fills m f i v)
Asked owner h n s a (Arrives m o f own) = (m ≡ a) × (own ≡ true → owner o ≡ a) × May h n s (Arrives m o f own)
Asked owner h n s a (Unclaims m f) = (m ≡ a) × May h n s (Unclaims m f)
Asked owner h n s a (Retreats m o) = (m ≡ a) × ((s.hand m).claimed ≡ None) × May h n s (Retreats m o)
Asked owner h n s a (Marks m o f) = (m ≡ a) × HasOnlyOwn owner a (s.hand m)
Asked owner h n s a (Copies m f i) = (m ≡ a) × (i < n) × May h n s (Copies m f i)
Asked owner h n s a (Puts m o x) = (m ≡ a) × May h n s (Puts m o x)
Asked owner h n s a (Commits m o f) = (m ≡ a) × ((s.hand m).claimed ≡ None) × May h n s (Commits m o f)
Asked owner h n s a (Aborts m o f) = (m ≡ a) × May h n s (Aborts m o f)
Asked owner h n s a (Leaves m o f) = (m ≡ a) × HasOnlyOwn owner a (s.hand m)
Asked owner h n s a (Releases m f) = (m ≡ a) × May h n s (Releases m f)
