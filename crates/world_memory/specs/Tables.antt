-- What code keeps of the machine: a row for each object, and for each frame its object and its cells.
use Rattle.std.specs.Prelude.{◌≡◌, ℕ, suc, ◌+◌, ◌*◌, ◌<◌, cond, nat_lt, Bool, true, false, ◌&&◌, ◌==◌, Option, Some, None, List, length, slice_index_or, slice_set, replicate}
use Rattle.pointer_word.specs.Words as words
use Rattle.world_memory.specs.declared.memory.ObjectPlace.{ObjectPlace}
use Rattle.world_memory.specs.declared.memory.ObjectPlace.TheVariants as p
use Rattle.world_memory.specs.declared.memory.Object.{Object}

-- objects' words with what their owners know, by their numbers; the object, if any, for which each frame is held; and the cells of all frames, one
-- frame's behind the other's, `size` of each
pub record Tables : Type 0 where
  pub objects : List Object
  pub frames : List (Option ℕ)
  pub cells : List ℕ
  pub size : ℕ

-- the place that code holds
abbrev pub place_of : ObjectPlace → words.Place
place_of p.Away = words.Away
place_of (p.Coming m) = words.Coming m
place_of (p.Here f k) = words.Here f k
place_of (p.Leaving f m k) = words.Leaving f m k

-- the word that code holds
abbrev pub word_of : Object → words.Word
word_of x = words.counted x.count (place_of x.place)

-- an object in its store cell, with no hold
abbrev pub resting : Object
resting = record { count = 0; place = p.Away; told = None; writing = false }

-- so many objects at rest, and so many frames that nobody holds, each of n cells that are 0
abbrev pub opened : ℕ → ℕ → ℕ → Tables
opened objects frames n = record { objects = replicate objects resting; frames = replicate frames None; cells = replicate (frames * n) 0; size = n }

-- outside the table objects rest
abbrev pub object_at : Tables → ℕ → Object
object_at t o = slice_index_or t.objects o resting

-- outside the table frames are free
abbrev pub frame_at : Tables → ℕ → Option ℕ
frame_at t f = slice_index_or t.frames f None

-- the word of a frame that is held for this object, or is free
abbrev pub frame_word : Option ℕ → ℕ
frame_word None = 0
frame_word (Some o) = suc o

-- the cell i of a frame; 0 where there is none
abbrev pub cell_at : Tables → ℕ → ℕ → ℕ
cell_at t f i = cond (nat_lt f (length t.frames) && nat_lt i t.size) (slice_index_or t.cells (f * t.size + i) 0) 0

-- one object changed
abbrev pub with_object : Tables → ℕ → Object → Tables
with_object t o x = record t { objects = slice_set t.objects o x }

-- one frame held for another object, or free
abbrev pub with_frame : Tables → ℕ → Option ℕ → Tables
with_frame t f y = record t { frames = slice_set t.frames f y }

-- one cell of a frame changed
abbrev pub with_cell : Tables → ℕ → ℕ → ℕ → Tables
with_cell t f i v = record t { cells = slice_set t.cells (f * t.size + i) v }

-- in this frame with no hold, and marked by this mover
abbrev pub is_marked_at : ObjectPlace → ℕ → ℕ → ℕ → Bool
is_marked_at (p.Leaving g j true) c f m = (g == f) && ((j == m) && (c == 0))
is_marked_at _ c f m = false

-- so of an object
abbrev pub is_marked_by : Object → ℕ → ℕ → Bool
is_marked_by x f m = is_marked_at x.place x.count f m

-- in this frame with no hold, not clean, and no mover moves it
abbrev pub is_here_at : ObjectPlace → ℕ → ℕ → Bool
is_here_at (p.Here g false) c f = (g == f) && (c == 0)
is_here_at _ c f = false

-- so of an object
abbrev pub is_at_rest_in : Object → ℕ → Bool
is_at_rest_in x f = is_here_at x.place x.count f

-- clean in this frame with no hold
abbrev pub is_clean_at : ObjectPlace → ℕ → ℕ → Bool
is_clean_at (p.Here g true) c f = (g == f) && (c == 0)
is_clean_at _ c f = false

-- so of an object
abbrev pub is_clean_in : Object → ℕ → Bool
is_clean_in x f = is_clean_at x.place x.count f

-- in its store cell
abbrev pub is_away_at : ObjectPlace → Bool
is_away_at p.Away = true
is_away_at _ = false

-- the number of the frame, if any, has 24 bits
abbrev pub FrameFits : words.Place → Type 0
FrameFits p = (f : ℕ) → words.framed p ≡ Some f → f < 16777216
