-- What a world is made of where code opens it, and what is told of a world.
use Rattle.std.specs.Prelude.{◌≡◌, ℕ, suc, ◌+◌, ◌*◌, Option, Some, None, List, [], length, map, option_map, slice_get, slice_index_or}
use Rattle.code_form.specs.declared.form.Image.{Image as RustImage}
use Rattle.code_form.specs.Form.{Image, image_of}
use Rattle.pointer_word.specs.Machine.{State}
use Rattle.pointer_word.specs.Words.{framed}
use Rattle.world_actors.specs.declared.evacuator.EvacuatorActor.{EvacuatorActor}
use Rattle.world_fetchers.specs.declared.fetcher.FetcherActor.{FetcherActor}
use Rattle.world_actors.specs.Seats.{Seat, begin}
use Rattle.world_semantics.specs.Worlds.{Sizes}

-- an image without a function
abbrev pub no_image : Image
no_image = record { piece = 64; head = record { texts = []; layouts = [] }; functions = [] }

-- the images that code holds
abbrev pub images_of : List RustImage → ℕ → Image
images_of images k = slice_index_or (map image_of images) k no_image

-- the sizes of a world of so many programs, frames, objects, evacuators and fetchers, of pieces of n cells
abbrev pub sizes_of : ℕ → ℕ → ℕ → ℕ → ℕ → ℕ → Sizes
sizes_of programs frames objects evacuators fetchers n =
    record { cells = n; programs = programs; evacuators = evacuators; fetchers = fetchers; frames = frames; objects = objects }

-- each program is at its beginning, with its share of the objects
abbrev pub AreBegun : {P : Type 0} → List RustImage → ℕ → List (Seat × P) → Type 0
AreBegun {P} images share seats = (k : ℕ) (x : Seat × P) → slice_get seats k ≡ Some x → x.0 ≡ begin (images_of images k) (k * share) (k * share + share) (suc k)

-- each evacuator is idle, and copies pieces of n cells
abbrev pub AreIdle : {P : Type 0} → ℕ → ℕ → List (EvacuatorActor × P) → Type 0
AreIdle {P} n programs movers = (k : ℕ) (x : EvacuatorActor × P) → slice_get movers k ≡ Some x → (x.0.eviction ≡ None) × (x.0.mover ≡ suc (programs + k)) × (length x.0.words.items ≡ n)

-- each fetcher is idle, and reads pieces of n cells, where there are so many movers before them
abbrev pub AreAtRest : {P : Type 0} → ℕ → ℕ → List (FetcherActor × P) → Type 0
AreAtRest {P} n before movers = (k : ℕ) (x : FetcherActor × P) → slice_get movers k ≡ Some x → (x.0.fetching ≡ None) × (x.0.mover ≡ suc (before + k)) × (length x.0.words.items ≡ n)

-- the cell i of the frame where the object o is, where it is in one
abbrev pub cell_of : State → ℕ → ℕ → Option ℕ
cell_of s o i = option_map (λ f. s.cell f i) (framed (s.word o).place)
