-- How the tables of code show a state of the machine.
use Rattle.std.specs.Prelude.{◌≡◌, ℕ, ◌*◌, ◌<◌, Bool, true, false, List, ◌∷◌, length, Option, Some, None, slice_get}
use Rattle.pointer_word.specs.Words.{Word}
use Rattle.pointer_word.specs.Hands.{Note}
use Rattle.pointer_word.specs.Machine.{Far, Never, Kept, Unknown, State}
use Rattle.remote_store.specs.declared.berth.Berth.{Berth}
use Rattle.world_memory.specs.declared.memory.Object.{Object}
use Rattle.world_semantics.specs.InHand.{WasPut}
use Rattle.world_semantics.specs.Worlds.{Sizes}
use Rattle.world_memory.specs.Tables.{Tables, cell_at, frame_at, frame_word, object_at, word_of}

-- an object's row is its word, and what its owner knows but for the history
pub record IsObject (x : Object) (w : Word) (n : Note) : Type 0 where
  pub word : w ≡ word_of x
  pub count : n.count ≡ x.count
  pub told : n.frame ≡ x.told
  pub writing : n.writing ≡ x.writing

-- the rows are these words, notes, frame words and cells, as many as there are objects and frames
pub record AreTables (z : Sizes) (t : Tables) (word : ℕ → Word) (note : ℕ → Note) (frame : ℕ → ℕ) (cell : ℕ → ℕ → ℕ) : Type 0 where
  pub objects : (o : ℕ) → IsObject (object_at t o) (word o) (note o)
  pub frames : (f : ℕ) → frame f ≡ frame_word (frame_at t f)
  pub cells : (f i : ℕ) → cell f i ≡ cell_at t f i
  pub size : t.size ≡ z.cells
  pub wide : length t.cells ≡ z.frames * z.cells
  pub objects_many : length t.objects ≡ z.objects
  pub frames_many : length t.frames ≡ z.frames

-- the rows are those of a state
abbrev pub Shown : Sizes → Tables → State → Type 0
Shown z t s = AreTables z t s.word s.note s.frame s.cell

module _ {C : Type 0} (content : C → Option (List ℕ)) (n : ℕ) where
  -- what the berth of the object o keeps, where there is one, is what the machine's store cell holds, of a piece of n cells
  abbrev pub IsFar : ℕ → Far → Option (Berth C) → Type 0
  IsFar o Never None = Unit {0}
  IsFar o (Kept ws) None = ⊥
  IsFar o Unknown None = ⊥
  IsFar o Never (Some b) = b.version ≡ 0
  IsFar o (Kept ws) (Some b) = (0 < b.version) × (length ws ≡ n) × (content b.cell ≡ Some (o ∷ b.version ∷ n ∷ ws))
  IsFar o Unknown (Some b) = 0 < b.version

  -- so of each object
  abbrev pub AreFar : List (Berth C) → (ℕ → Far) → Type 0
  AreFar berths far = (o : ℕ) → IsFar o (far o) (slice_get berths o)

-- nothing was ever put into the store cell, or something was tried to be
abbrev pub IsNew : Bool → Far → Type 0
IsNew true far = far ≡ Never
IsNew false far = WasPut far
